mod Fragments
mod Following
mod Turning
mod WholeRuns
