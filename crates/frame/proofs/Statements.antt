-- Proves specs/Statements.antt. Assumes nothing.
use Rattle.frame.proofs.Laws.{divided-up-covers as covers, divided-up-least as least, split-whole as whole, inner-lt, group-below as below}
use Rattle.frame.specs.Statements.{DividedUpCovers, DividedUpLeast, SplitWhole, InnerBelow, GroupBelow}

pub divided-up-covers : DividedUpCovers
divided-up-covers = covers

pub divided-up-least : DividedUpLeast
divided-up-least = least

pub split-whole : SplitWhole
split-whole = whole

pub inner_below : InnerBelow
inner_below = inner-lt

pub group-below : GroupBelow
group-below = below
