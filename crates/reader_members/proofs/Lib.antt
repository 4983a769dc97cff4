pub mod Seating
pub mod Bodies
pub mod Membering
