-- `epf_tiles::strips::share` meets its contract. Assumes nothing.
use Rattle.epf_tiles.proofs.Blocks.{share-is}
use Rattle.epf_tiles.proofs.strips.share.Goals as goal

pub returns : goal.returns
returns c = share-is _ _ _ c.requires c.div_ceil.ensures c.div_ceil-2.ensures
