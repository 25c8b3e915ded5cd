-- The lower of two numbers, where 0 means that no check applies. Definitions only.
use Rattle.std.specs.Prelude.{cond, ℕ, eqb, ltb}

unfoldable pub lowest : ℕ → ℕ → ℕ
lowest a b = cond (eqb a 0) b (cond (eqb b 0) a (cond (ltb b a) b a))
