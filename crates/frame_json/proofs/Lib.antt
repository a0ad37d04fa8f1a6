mod Texts
mod TwoRows
mod Dates
mod Floats
mod Pairs
