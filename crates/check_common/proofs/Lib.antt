mod Members
mod Searches
mod Apart
mod Moving
mod Totals
mod Elements
mod Gathering
