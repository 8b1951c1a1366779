mod Room
mod Steps
mod Last
pub mod Names
mod Following
pub mod Leaving
mod Recording
mod Holdings
mod Standing
mod Turns
mod Passes
mod Coming
pub mod Opening
pub mod Closing
mod Forks
mod JoinsMade
mod CallsMade
mod Quiet
mod Lasting
mod InHandStill
mod Firsts
mod InHand
mod StartsMade
mod RaisesMade
mod ReportsMade
mod Handing
mod Stirring
mod Unstirred
mod Hosting
mod Asked
