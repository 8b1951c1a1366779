mod Chains
mod Handing
mod Lists
mod Seeing
