-- The laws that three of the steps of sectors.rt are proved with, a set for each: what it answers inside and outside, and the shut definitions of what
-- it counts.
use Rattle.geometry.specs.Drive.Inside.{marks_at_is}
use Rattle.geometry.specs.Sectors.Inside.{first_byte_is, mark_byte_is, number_of_is, place_of_is}
use Rattle.geometry.proofs.Answers.{numbered_inside, numbered_outside, placed_inside, placed_outside, sector_at_inside, sector_at_outside}

pub ruleset numbers = (numbered_inside, numbered_outside, number_of_is)

pub ruleset places = (placed_inside, placed_outside, place_of_is)

pub ruleset sectors = (sector_at_inside, sector_at_outside, first_byte_is, mark_byte_is, marks_at_is)
