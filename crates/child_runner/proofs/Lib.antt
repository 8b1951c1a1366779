mod Telling
mod Reading
mod Stretches
mod Coming
mod Fed
mod Owned
mod Whole
mod Takings
