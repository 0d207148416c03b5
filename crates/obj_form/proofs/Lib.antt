mod Spelled
mod Arrays
mod Ordered
mod Pairs
mod Words
mod Unique
mod Writing
mod Reading
