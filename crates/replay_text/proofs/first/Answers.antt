-- `replay_text::first` meets its contract. Assumes nothing.
use Rattle.std.proofs.Common.{rules, ◌≡◌, ◌==◌, position}
use Rattle.std.proofs.lemmas.Iterator.Search.{position_from_yields_List}
use Rattle.std.proofs.lemmas.Iterator.{YieldsList-from_slice}
use mathlib.Core.Path.{◌∙◌}
use Rattle.replay_text.proofs.Words.{end_is}
use Rattle.replay_text.proofs.first.Goals as goal

pub returns : goal.returns
returns c =
    let first : c.position.result ≡ position (λ x. x == c.args.byte) c.args.text.now =
    position_from_yields_List _ _ _ _ c.position.ensures.ran (YieldsList-from_slice c.args.text.now c.iter.ensures.rest) (λ x b q k. search rules) in
    c.unwrap_or.ensures ∙ end_is _ c.args.text.now c.position.result first
