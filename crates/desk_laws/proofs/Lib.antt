-- What is proved of the desk's calls: each touches its own number alone (Touching), demand 3 (Swapping), what list shows (Listing), the tables of refusals and
-- of moves, exactly (Refusing), and that a desk that ignores calls swaps them and breaks the tables (Ignoring).
pub mod Vacancy
pub mod Putting
pub mod ByNumber
pub mod Opening
pub mod Pasting
pub mod Feeding
pub mod Touching
pub mod Swapping
pub mod Listing
pub mod Standing
pub mod Refusing
pub mod Accepting
pub mod Outcomes
pub mod Sound
pub mod Ignoring
