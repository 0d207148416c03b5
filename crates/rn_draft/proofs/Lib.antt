mod Putting
mod Gathered
