-- Lemmas by topic: of lists written to places, of runs entry by entry, and of ranks.
mod Laying
mod Playing
mod Ranks
