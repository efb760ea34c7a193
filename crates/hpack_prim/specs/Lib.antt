pub mod Integers
pub mod Huffman
pub mod Encoding
pub mod Decoding
