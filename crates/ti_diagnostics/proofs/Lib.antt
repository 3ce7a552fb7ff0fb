mod Places
mod Positions
mod RelatedPlaces
