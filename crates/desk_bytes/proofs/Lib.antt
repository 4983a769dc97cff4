-- Decoding and encoding undo each other (Codec); a desk read from its bytes and written to them, one lemma for each return and each turn; one outcome (Outcomes).
pub mod Codec
pub mod Decoding
pub mod Encoding
pub mod Outcomes
