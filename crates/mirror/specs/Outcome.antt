-- The answer of `mirror` (Specification 8.3): its table of checks, and the outcome for every offset and length.
use Rattle.std.specs.Prelude.{cond, List, [], ◌∷◌, ℕ, ltb, eqb, ℤ, pos, neg_ℤ}
use Rattle.std.specs.Int.Signed.{lt_z}
use Rattle.refusals.specs.Numbers.{out_of_range}
use Rattle.refusals.specs.Checks.{Check, always, first_of}
use Rattle.mirror.specs.declared.MirrorAnswer.{MirrorAnswer}
use Rattle.mirror.specs.Mirror.{mirror}

-- 9 for a length outside 1 to 16,384 or an offset outside −1,048,576 to 1,048,576 (Specification 4.1, 8.3)
abbrev pub mirror_checks : ℤ → ℕ → List Check
mirror_checks offset len =
    always out_of_range (ltb len 1)
    ∷ always out_of_range (ltb 16384 len)
    ∷ always out_of_range (lt_z offset (neg_ℤ (pos 1048576)))
    ∷ always out_of_range (lt_z (pos 1048576) offset)
    ∷ []

-- a refusal has the index 0
abbrev pub mirror_answered : ℕ → ℕ → MirrorAnswer
mirror_answered number index = record { number = number; index = cond (eqb number 0) index 0 }

-- the number of the first check that applies, and the mirrored index if none does
abbrev pub mirror_outcome : ℤ → ℕ → MirrorAnswer
mirror_outcome offset len = mirror_answered (first_of (mirror_checks offset len)) (mirror offset len)
