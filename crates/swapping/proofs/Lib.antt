-- Demand 3 for any kind of call whose calls each touch their own number alone: two swapped (Swapping), any mixing (Mixing), and what an order is (Orders).
pub mod Swapping
pub mod Orders
pub mod Mixing
