mod Ends
mod Rows
mod Units
