mod TokenSizes
mod FormSizes
mod Lines
mod Standings
mod Units
mod Sizes
