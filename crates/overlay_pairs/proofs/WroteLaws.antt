-- Pairs written after others: none, one, too many, and some after some.
-- Assumes nothing.
use mathlib.Core.Path.{◌≡◌, refl, sym, ◌∙◌, ap}
use mathlib.Core.List.{List, [], ◌∷◌, ◌++◌, flat_map}
use Prim.Native.Nat.{ℕ, ◌+◌, ◌*◌, ◌≤◌, ◌<◌}
use native.Mathlib.Omega.{arith}
use lib.ListN.{length, set, length-append, length-set}
use lib.Seq.{sets, drop-set-lt}
use Rattle.std.specs.Prelude.{Option, None, Some, MatchOption}
use Rattle.theory_lists.proofs.ListsLaws.{sets-join}
use Rattle.theory_lists.proofs.FlatMapLaws.{flat_map-append, flat_map-length}
use Rattle.spec_charts.specs.Overlay.{Pair, pair_numbers, max_pairs}
use Rattle.spec_calls.specs.Buffers.{pairs_length}
use Rattle.overlay_pairs.specs.Pairs.{Wrote}

-- two numbers for each pair
pub numbers-length : (ps : List Pair) → length (pair_numbers ps) ≡ 2 * length ps
unfolding pair_numbers
numbers-length ps = flat_map-length (λ p. p.i ∷ p.j ∷ []) 2 (λ p. refl) ps

numbers-append : (ps qs : List Pair) → pair_numbers (ps ++ qs) ≡ pair_numbers ps ++ pair_numbers qs
unfolding pair_numbers
numbers-append ps qs = flat_map-append (λ p. p.i ∷ p.j ∷ []) ps qs

-- nothing
pub wrote_none : (at : ℕ) (l : List ℕ) → at ≤ max_pairs → Wrote [] at (Some at) l l
unfolding pair_numbers flat_map
wrote_none at l h = record { count = (omega arith, h); stored = λ g. refl; beyond = refl; kept = refl }

-- too many already
pub wrote-already : (ps : List Pair) (at : ℕ) (l : List ℕ) → max_pairs < at → Wrote ps at None l l
wrote-already ps at l h = record { count = omega arith; stored = λ g. absurd (omega arith); beyond = refl; kept = refl }

-- one pair
pub wrote_one : (p : Pair) (at : ℕ) (l : List ℕ) → at < max_pairs → Wrote (p ∷ []) at (Some (at + 1)) l (set (set l (2 * at) p.i) (2 * at + 1) p.j)
unfolding pair_numbers flat_map
wrote_one p at l h = record {
  count = (omega arith, omega arith);
  stored = λ g. ap (λ k. set (set l (2 * at) p.i) k p.j) (omega arith);
  beyond =
      drop-set-lt pairs_length (set l (2 * at) p.i) (2 * at + 1) p.j (omega arith)
      ∙ drop-set-lt pairs_length l (2 * at) p.i (omega arith);
  kept = length-set (set l (2 * at) p.i) (2 * at + 1) p.j ∙ length-set l (2 * at) p.i;
}

-- counts one after the other
join-counts : (c : Option ℕ) (a x b y n : ℕ) → b ≡ a + x → MatchOption c (n < b + y) (λ c. (c ≡ b + y) × (c ≤ n))
    → MatchOption c (n < a + (x + y)) (λ c. (c ≡ a + (x + y)) × (c ≤ n))
join-counts None a x b y n e h = omega arith
join-counts (Some c) a x b y n e h = (omega arith, h.1)

-- some after some
pub wrote-join : {ps qs : List Pair} {a b : ℕ} {c : Option ℕ} {l m n : List ℕ} → Wrote ps a (Some b) l m → Wrote qs b c m n → Wrote (ps ++ qs) a c l n
wrote-join {ps} {qs} {a} {b} {c} {l} {m} {n} u v = record {
  count = rw (length-append ps qs) (join-counts c a (length ps) b (length qs) max_pairs u.count.0 v.count);
  stored = λ h.
      let s : a + (length ps + length qs) ≤ max_pairs = omega (arith, length-append ps qs) in
      v.stored (omega (arith, u.count.0))
      ∙ ap (λ x. sets x (2 * b) (pair_numbers qs)) (u.stored (omega arith))
      ∙ sets-join l (2 * a) (2 * b) (pair_numbers ps) (pair_numbers qs) (omega (arith, numbers-length ps, u.count.0))
      ∙ ap (sets l (2 * a)) (sym (numbers-append ps qs));
  beyond = v.beyond ∙ u.beyond;
  kept = v.kept ∙ u.kept;
}

-- too many, and so with more of them
pub wrote-over : {ps : List Pair} (qs : List Pair) {a : ℕ} {l m : List ℕ} → Wrote ps a None l m → Wrote (ps ++ qs) a None l m
wrote-over {ps} qs u = record {
  count = omega (arith, length-append ps qs, u.count);
  stored = λ h. absurd (omega (arith, length-append ps qs, u.count));
  beyond = u.beyond;
  kept = u.kept;
}
