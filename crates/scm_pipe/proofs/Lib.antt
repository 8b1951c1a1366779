mod Histories
mod Walking
mod Joining
mod Piping
