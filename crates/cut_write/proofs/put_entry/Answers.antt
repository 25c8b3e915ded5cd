-- `cut_write::put_entry` meets its contract. Assumes nothing.
use mathlib.Core.Path.{ap, ◌∙◌}
use borrow.Author.Rules.{rules}
use mir.Facts.{to_z-of_z}
use mir.Syntax.{w32}
use Rattle.cut_bytes.specs.Bytes.{unsigned}
use Rattle.cut_write.proofs.Bytes.{entry-parts}
use Rattle.cut_write.proofs.put_entry.Goals as goal

pub returns : goal.returns
returns c =
    let a = c.args in
    entry-parts a.file.now a.at a.offset a.r _ _ _ _ _ _ _
    c.requires
    c.put_u32.ensures
    (c.bits_of.ensures ∙ ap unsigned (to_z-of_z {w = w32} {z = a.r.left} (search rules)))
    c.put_u32-2.ensures
    (c.bits_of-2.ensures ∙ ap unsigned (to_z-of_z {w = w32} {z = a.r.top} (search rules)))
    c.put_u32-3.ensures
    c.put_u16.ensures
    c.put_u16-2.ensures
