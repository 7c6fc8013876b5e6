-- What the bytes of a command tell: whether they begin a command.
-- Assumes nothing.
use mathlib.Core.Path.{◌≡◌, refl, sym}
use mathlib.Core.Bool.{Bool, true, false, not, ◌&&◌, ◌||◌}
use mathlib.Core.List.{List, [], ◌∷◌}
use Prim.Native.Nat.{ℕ, zero, suc}
use native.Mathlib.Omega.{arith}
use borrow.Author.Tests.{lt-leb, lt-ltb}
use lib.Dec.{leb, ltb}
use lib.ListN.{get_or, take, drop}
use Rattle.spec_log.specs.Log.{known, takes_chart}
use Rattle.log_portions.specs.Portions.{fine_so_far}

above-one : (n : ℕ) → ltb 1 n ≡ not (leb n 1)
above-one zero = refl
above-one (suc zero) = refl
above-one (suc (suc n)) = rw (lt-ltb 1 (suc (suc n)) (omega arith), lt-leb (suc (suc n)) 1 (omega arith))

-- the byte after the first, where it has come
chart-bad : (count : ℕ) (held : List ℕ) → ltb 0 count && ltb 1 (get_or held 1 0) ≡ not (leb (get_or (take count (drop 1 held)) 0 0) 1)
chart-bad zero held = refl
chart-bad (suc n) [] = rw (lt-ltb 0 (suc n) (omega arith))
chart-bad (suc n) (x ∷ []) = rw (lt-ltb 0 (suc n) (omega arith))
chart-bad (suc n) (x ∷ y ∷ l) = rw (lt-ltb 0 (suc n) (omega arith)) (above-one y)

pub bad-test : (b count : ℕ) (held : List ℕ) {k t : Bool} → k ≡ known b → t ≡ takes_chart b
    → not k || (t && ltb 0 count && ltb 1 (get_or held 1 0)) ≡ not (fine_so_far b (take count (drop 1 held)))
unfolding fine_so_far
bad-test b count held {k} {t} e f = rw (sym e, sym f) (go k t)
  where
    go : (k t : Bool) → not k || (t && ltb 0 count && ltb 1 (get_or held 1 0)) ≡ not (k && (not t || leb (get_or (take count (drop 1 held)) 0 0) 1))
    go false t = refl
    go true false = refl
    go true true = chart-bad count held
