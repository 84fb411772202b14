-- `interpolation::term`: members of a list of elements are elements.
use Rattle.field.proofs.Below.{member_below}
use Rattle.interpolation.proofs.term.Goals as goal

pub mul-requires : goal.mul-requires
mul-requires c = (member_below _ _ c.requires.elements.0, member_below _ _ c.requires.elements.1)
