mod Lists
mod Adding
mod Pairs
mod Counts
mod Bytes
mod Pages
mod Uuids
