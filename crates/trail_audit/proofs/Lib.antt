mod Opened
mod Placed
mod Stretches
mod Ends
mod Whole
mod Entered
