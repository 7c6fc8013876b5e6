-- Tilings: nodes whose ranges follow one another without gap or overlap.
-- Each law is an induction along the tiling. Two tilings of one range start with nodes that have the first key in common, so if
-- nodes with a common key are equal, the tilings are equal step by step (`tilings-unique`).
-- Assumes nothing.
use mathlib.Core.Path.{◌≡◌, refl, sym, ◌∙◌, ap, ap₂, subst}
use mathlib.Core.List.Memᴰ
use mathlib.Core.List.{List, [], ◌∷◌, ◌++◌, flat_map, Memᴰ}
use mathlib.Core.Logic.{◌⊎◌, inl, inr}
use Prim.Native.Nat.{ℕ, zero, suc, ◌+◌, ◌*◌, ◌≤◌, ◌<◌}
use native.Mathlib.Decide.{dec_le}
use native.Mathlib.Omega.{arith}
use lib.ListN.{length, get_or}
use Rattle.theory_lists.proofs.ListsLaws.{Every, Some, every-cons, every-uncons, some-cons}
use Rattle.theory_lists.proofs.EveryLaws.{every-nil}
use Rattle.theory_orthtree.proofs.RangeLaws.{Within}

-- the ranges of the nodes, in their order, make up the numbers from the first index up to the second: each range starts where
-- the one before it ends
pub data Tiles {Node : Type 0} (key size : Node → ℕ) : ℕ → List Node → ℕ → Type 0 where
  done : {a b : ℕ} → a ≡ b → Tiles key size a [] b
  next : {a b : ℕ} {n : Node} {ns : List Node} → key n ≡ a → Tiles key size (a + size n) ns b → Tiles key size a (n ∷ ns) b

module _ {Node : Type 0} (key size : Node → ℕ) where
  -- a node tiles its own range
  pub tiles-one : (n : Node) → Tiles key size (key n) (n ∷ []) (key n + size n)
  tiles-one n = next refl (done refl)

  -- a tiling goes up
  pub tiles-le : {a b : ℕ} {ns : List Node} → Tiles key size a ns b → a ≤ b
  tiles-le (done e) = omega arith
  tiles-le (next e t) = let h = tiles-le t in omega arith

  -- two tilings one after the other
  pub tiles-join : {a b c : ℕ} {ns ms : List Node} → Tiles key size a ns b → Tiles key size b ms c → Tiles key size a (ns ++ ms) c
  tiles-join {c = c} {ms = ms} (done e) u = subst (λ a. Tiles key size a ms c) (sym e) u
  tiles-join (next e t) u = next e (tiles-join t u)

  -- in place of each node a tiling of its range
  pub tiles-flat_map : (f : Node → List Node) {a b : ℕ} {ns : List Node} → Tiles key size a ns b
      → Every (λ n. Tiles key size (key n) (f n) (key n + size n)) ns → Tiles key size a (flat_map f ns) b
  unfolding flat_map
  tiles-flat_map f (done e) h = done e
  tiles-flat_map f (next {a = a} {n = n} e t) h =
      let g = every-uncons h in
      tiles-join (subst (λ k. Tiles key size k (f n) (k + size n)) e g.0) (tiles-flat_map f t g.1)

  -- each node lies within the range that is tiled
  pub tiles-inside : {a b : ℕ} {ns : List Node} → Tiles key size a ns b → Every (λ n. (a ≤ key n) × (key n + size n ≤ b)) ns
  tiles-inside {a} {b} (done e) = every-nil (λ n. (a ≤ key n) × (key n + size n ≤ b))
  tiles-inside {a} {b} (next e t) = let h = tiles-le t in every-cons (omega arith, λ n m. let g = tiles-inside t n m in omega arith)

  -- by places: the first node starts where the range does
  pub tiles-first : {a b : ℕ} {ns : List Node} (d : Node) → Tiles key size a ns b → 0 < length ns → key (get_or ns 0 d) ≡ a
  tiles-first d (done e) l = absurd (omega arith)
  tiles-first d (next e t) l = e

  -- each next one where the one before it ends
  pub tiles-next : {a b : ℕ} {ns : List Node} (d : Node) (i : ℕ) → Tiles key size a ns b → suc i < length ns
      → key (get_or ns (suc i) d) ≡ key (get_or ns i d) + size (get_or ns i d)
  tiles-next d i (done e) l = absurd (omega arith)
  tiles-next d zero (next e t) l = let f = tiles-first d t (omega arith) in omega arith
  tiles-next d (suc i) (next e t) l = tiles-next d i t (omega arith)

  -- and the last ends where the range does
  pub tiles-last : {a b : ℕ} {ns : List Node} (d : Node) (i : ℕ) → Tiles key size a ns b → suc i ≡ length ns
      → key (get_or ns i d) + size (get_or ns i d) ≡ b
  tiles-last d i (done e) l = absurd (omega arith)
  tiles-last d zero (next e (done f)) l = omega arith
  tiles-last d zero (next e (next f t)) l = absurd (omega arith)
  tiles-last d (suc i) (next e t) l = tiles-last d i t (omega arith)

  -- some node has the key
  pub tiles-cover : {a b : ℕ} {ns : List Node} (k : ℕ) → Tiles key size a ns b → a ≤ k → k < b → Some (λ n. Within (key n) (size n) k) ns
  tiles-cover k (done e) h l = absurd (omega arith)
  tiles-cover k (next {a = a} {n = n} e t) h l = elim (dec_le (a + size n) k) [
    | yes g ↦ some-cons (inr (tiles-cover k t g l))
    | no g ↦ some-cons (inl (record { starts = omega arith; ends = omega arith }))
  ]

  -- and no other
  pub tiles-apart : {a b : ℕ} {ns : List Node} {n m : Node} (k : ℕ) → Tiles key size a ns b → Memᴰ n ns → Memᴰ m ns
      → Within (key n) (size n) k → Within (key m) (size m) k → n ≡ m
  tiles-apart k (done e) u v p q = absurd (Memᴰ.not-nil u)
  tiles-apart {n = n} {m = m} k (next {n = x} {ns = ns} e t) u v p q =
      go (λ c d. tiles-apart k t c d p q) (Memᴰ.cases_cons u) (Memᴰ.cases_cons v)
    where
      go : (Memᴰ n ns → Memᴰ m ns → n ≡ m) → (n ≡ x) ⊎ Memᴰ n ns → (m ≡ x) ⊎ Memᴰ m ns → n ≡ m
      go rec (inl c) (inl d) = c ∙ sym d
      go rec (inl c) (inr d) = let h = tiles-inside t m d in absurd (omega (arith, ap key c, ap size c))
      go rec (inr c) (inl d) = let h = tiles-inside t n c in absurd (omega (arith, ap key d, ap size d))
      go rec (inr c) (inr d) = rec c d

  -- two tilings of the same range are equal if nodes of them that have a key in common are
  pub tilings-unique : {a b : ℕ} {ns ms : List Node} → Every (λ n. 0 < size n) ns → Every (λ m. 0 < size m) ms
      → ((n m : Node) (k : ℕ) → Memᴰ n ns → Memᴰ m ms → Within (key n) (size n) k → Within (key m) (size m) k → n ≡ m)
      → Tiles key size a ns b → Tiles key size a ms b → ns ≡ ms
  tilings-unique p q same (done e) (done f) = refl
  tilings-unique p q same (done e) (next f u) = let h = tiles-le u in let g = every-uncons q in absurd (omega arith)
  tilings-unique p q same (next e t) (done f) = let h = tiles-le t in let g = every-uncons p in absurd (omega arith)
  tilings-unique {b = b} p q same (next {a = a} {n = n} e t) (next {n = m} {ns = ms} f u) =
      let g = every-uncons p in
      let h = every-uncons q in
      let at : (x : Node) → key x ≡ a → 0 < size x → Within (key x) (size x) a = λ x z l. record { starts = omega arith; ends = omega arith } in
      let first = same n m a (Memᴰ.head refl) (Memᴰ.head refl) (at n e g.0) (at m f h.0) in
      let rest = subst (λ x. Tiles key size (a + size x) ms b) (sym first) u in
      ap₂ ◌∷◌ first (tilings-unique g.1 h.1 (λ x y k c d. same x y k (Memᴰ.tail c) (Memᴰ.tail d)) t rest)

-- nodes of one size whose keys go up by that size tile what they cover together
pub tiles-steps : {Node : Type 0} (key size : Node → ℕ) (s : ℕ) (d : Node) (ns : List Node) {a b : ℕ} → Every (λ n. size n ≡ s) ns
    → ((i : ℕ) → i < length ns → key (get_or ns i d) ≡ a + i * s) → a + length ns * s ≡ b → Tiles key size a ns b
tiles-steps key size s d [] {a} {b} p h e = let z : a ≡ b = omega arith in done z
tiles-steps key size s d (n ∷ ns) {a} {b} p h e =
    let g = every-uncons p in
    let z = h 0 (omega arith) in
    let first : key n ≡ a = omega arith in
    let rest : a + size n + length ns * s ≡ b = omega arith in
    next first (tiles-steps key size s d ns g.1 (λ i l. let y = h (suc i) (omega arith) in omega arith) rest)
