mod Bodies
mod Values
mod Carried
mod Said
mod Pieces
mod Sinking
mod Parts
mod Legal
