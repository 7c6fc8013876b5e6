-- A cell that lies beyond a side of a window by the bits of its keys has no point in common with the window.
-- The idea: the first key of a cell has the bits of its corner, and the last one those of the grid point next to its opposite corner; keys of
-- one coordinate do not fall where it does not.
-- Assumes nothing.
use mathlib.Core.Path.{◌≡◌, refl, sym, ◌∙◌, ap, ap₂}
use mathlib.Core.Bool.{Bool, true, false, not, ◌||◌}
use mathlib.Core.List.{[], ◌∷◌, map}
use Prim.Native.Nat.{ℕ, zero, suc, ◌+◌, ◌*◌, ◌-◌, ◌/◌, ◌%◌, ◌^◌, ◌≤◌, ◌<◌}
use native.Mathlib.Nat.{zero-div, div-add-mod', mod-eq_of_lt, add-mul-mod_self_left}
use native.Mathlib.Decide.{dec_le}
use native.Mathlib.Omega.{arith}
use lib.Bits.{bit_and, bit_or, and_mask, and_zero_r, or_shifted, or_lt}
use lib.Dec.{T, ltb, ltb→lt, lt→ltb}
use lib.Pow.{pow_pos, pow_mono}
use Rattle.theory_lists.specs.Lists.{count_from, up_to}
use Rattle.theory_lists.proofs.Reflects.{test-false}
use Rattle.theory_orthtree.specs.Entries.{span, entry}
use Rattle.theory_orthtree.specs.Morton.{lowest_bits, morton_key, key_coordinate}
use Rattle.theory_orthtree.proofs.MortonLaws.{morton-bound, morton-split}
use Rattle.theory_orthtree.proofs.KeyLaws.{coordinate-of-key, coordinate-bound, key-of-coordinates}
use Rattle.spec_plane.specs.Box.{Box, apart}
use Rattle.spec_squares.specs.Square.{arity, depth, side_at, z_order, square_of_key, square_box}
use Rattle.spec_squares.proofs.SquareLaws.{side-positive}
use Rattle.spec_window.specs.Window.{entry_square, cell_touches}
use Rattle.read_cells.proofs.Cases.{agree-below}
use Rattle.window_keys.specs.Sides.{across_key, down_key, sides_of, across_bits, down_bits, last_key, beyond}
use Rattle.window_keys.proofs.KeyBits.{key-and, key-or, across-mono, down-mono}

-- the coordinates of a key
abbrev X : ℕ → ℕ
X k = key_coordinate 2 0 depth k

abbrev Y : ℕ → ℕ
Y k = key_coordinate 2 1 depth k

-- the key of two coordinates
abbrev key : ℕ → ℕ → ℕ
key x y = morton_key depth (x ∷ y ∷ [])

key-again : (k : ℕ) → k < 4294967296 → k ≡ key (X k) (Y k)
unfolding up_to count_from
key-again k h = sym (key-of-coordinates 2 depth k ∙ mod-eq_of_lt h)

all_ones : (x : ℕ) → x < 65536 → bit_and x 65535 ≡ x
all_ones x h = and_mask x 16 ∙ mod-eq_of_lt h

-- the bits of x in a key, and those of y
across-bits : (x y : ℕ) → x < 65536 → across_bits (key x y) ≡ across_key x
unfolding z_order morton_key lowest_bits
across-bits x y h = key-and depth x y 65535 0 ∙ ap₂ key (all_ones x h) (and_zero_r y)

down-bits : (x y : ℕ) → y < 65536 → down_bits (key x y) ≡ down_key y
unfolding z_order morton_key lowest_bits
down-bits x y h = key-and depth x y 0 65535 ∙ ap₂ key (and_zero_r x) (all_ones y h)

-- the ones that a cell of this level has below its own bits, as the key of the same of two coordinates: computed for each level
all-levels : map (λ l. span arity depth l - 1) (count_from 0 17) ≡ map (λ l. key (side_at l - 1) (side_at l - 1)) (count_from 0 17)
unfolding count_from span side_at morton_key lowest_bits
all-levels = refl

low_ones : (level : ℕ) → level ≤ depth → span arity depth level - 1 ≡ key (side_at level - 1) (side_at level - 1)
low_ones level h = agree-below (λ l. span arity depth l - 1) (λ l. key (side_at l - 1) (side_at l - 1)) 17 all-levels level (omega arith)

coordinate-zero : (d j n : ℕ) → key_coordinate d j n 0 ≡ 0
unfolding key_coordinate
coordinate-zero d j zero = refl
coordinate-zero d j (suc n) = rw (zero-div (2 ^ j), zero-div (2 ^ d), coordinate-zero d j n)

-- where the lowest m digits of a key are 0, so are the lowest m bits of its coordinates
module _ (m n x y : ℕ) (e : morton_key (m + n) (x ∷ y ∷ []) % 4 ^ m ≡ 0) where
  low-digits : morton_key m (x ∷ y ∷ []) ≡ 0
  low-digits =
      sym (ap (λ k. k % 4 ^ m) (morton-split m n (x ∷ y ∷ [])) ∙ add-mul-mod_self_left _ (4 ^ m) _ ∙ mod-eq_of_lt (morton-bound m (x ∷ y ∷ []))) ∙ e

  low-across : x % 2 ^ m ≡ 0
  low-across = sym (coordinate-of-key m 0 (x ∷ y ∷ []) (omega arith)) ∙ ap (key_coordinate 2 0 m) low-digits ∙ coordinate-zero 2 0 m

  low-down : y % 2 ^ m ≡ 0
  low-down = sym (coordinate-of-key m 1 (x ∷ y ∷ []) (omega arith)) ∙ ap (key_coordinate 2 1 m) low-digits ∙ coordinate-zero 2 1 m

-- sides are at most 2 ^ 16
power_small : (m : ℕ) → m ≤ 16 → 2 ^ m ≤ 65536
power_small m h = pow_mono h

-- ones below a multiple
filled : (c m : ℕ) → c % 2 ^ m ≡ 0 → bit_or c (2 ^ m - 1) ≡ c + (2 ^ m - 1)
filled c m e =
    let h = pow_pos m in
    let s : c ≡ c / 2 ^ m * 2 ^ m = sym (div-add-mod' c (2 ^ m)) ∙ ap (λ r. c / 2 ^ m * 2 ^ m + r) e ∙ omega arith in
    ap (λ x. bit_or x (2 ^ m - 1)) s ∙ or_shifted (c / 2 ^ m) m (2 ^ m - 1) (omega arith) ∙ ap (λ x. x + (2 ^ m - 1)) (sym s)

-- ---- one side, for keys of one coordinate

module _ (f : ℕ → ℕ) (mono : (a b : ℕ) → a ≤ b → b < 65536 → f a ≤ f b) where
  -- the last number of a cell from c on is below one less than a side
  too-low : (a c s : ℕ) → 0 < s → c + (s - 1) < 65536 → T (ltb (f (c + (s - 1))) (f (a - 1))) → T (ltb (c + s) a)
  too-low a c s p h t = elim (dec_le (suc (c + s)) a) [
    | yes l ↦ lt→ltb (c + s) a l
    | no l ↦ absurd (omega (arith, mono (a - 1) (c + (s - 1)) (omega arith) h, ltb→lt (f (c + (s - 1))) (f (a - 1)) t))
  ]

  -- the first is above a side
  too-high : (a c : ℕ) → a < 65536 → T (ltb (f a) (f c)) → T (ltb a c)
  too-high a c h t = elim (dec_le (suc a) c) [
    | yes l ↦ lt→ltb a c l
    | no l ↦ absurd (omega (arith, mono c a (omega arith) h, ltb→lt (f a) (f c) t))
  ]

-- ---- all four

either : (a b c d : Bool) → (T a → T c) → (T b → T d) → T (a || b) → T (c || d)
either true b true d f g t = tt
either true b false d f g t = absurd (f tt)
either false b true d f g t = tt
either false b false d f g t = g t

not-passed : (b : Bool) → T b → T (not b) → ⊥
not-passed true t u = u
not-passed false t u = t

module _ (w : Box) (k level : ℕ) (small : k < 4294967296) (deep : level ≤ depth) (aligned : k % span arity depth level ≡ 0) where
  lows : morton_key (depth - level + level) (X k ∷ Y k ∷ []) % 4 ^ (depth - level) ≡ 0
  unfolding span
  lows =
      let e : depth - level + level ≡ depth = omega arith in
      ap (λ n. morton_key n (X k ∷ Y k ∷ []) % 4 ^ (depth - level)) e ∙ ap (λ n. n % 4 ^ (depth - level)) (sym (key-again k small)) ∙ aligned

  filled-across : bit_or (X k) (side_at level - 1) ≡ X k + (side_at level - 1)
  unfolding side_at
  filled-across = filled (X k) (depth - level) (low-across (depth - level) level (X k) (Y k) lows)

  filled-down : bit_or (Y k) (side_at level - 1) ≡ Y k + (side_at level - 1)
  unfolding side_at
  filled-down = filled (Y k) (depth - level) (low-down (depth - level) level (X k) (Y k) lows)

  side-small : side_at level - 1 < 65536
  unfolding side_at
  side-small = omega (arith, power_small (depth - level) (omega arith))

  within-across : X k + (side_at level - 1) < 65536
  within-across = rw (← filled-across) (or_lt 16 (X k) (side_at level - 1) (coordinate-bound 2 0 depth k) side-small)

  within-down : Y k + (side_at level - 1) < 65536
  within-down = rw (← filled-down) (or_lt 16 (Y k) (side_at level - 1) (coordinate-bound 2 1 depth k) side-small)

  last-key : last_key k level ≡ key (X k + (side_at level - 1)) (Y k + (side_at level - 1))
  last-key =
      ap₂ bit_or (key-again k small) (low_ones level deep) ∙ key-or depth (X k) (Y k) (side_at level - 1) (side_at level - 1)
      ∙ ap₂ key filled-across filled-down

  first-across : across_bits k ≡ across_key (X k)
  first-across = ap across_bits (key-again k small) ∙ across-bits (X k) (Y k) (coordinate-bound 2 0 depth k)

  first-down : down_bits k ≡ down_key (Y k)
  first-down = ap down_bits (key-again k small) ∙ down-bits (X k) (Y k) (coordinate-bound 2 1 depth k)

  last-across : across_bits (last_key k level) ≡ across_key (X k + (side_at level - 1))
  last-across = ap across_bits last-key ∙ across-bits (X k + (side_at level - 1)) (Y k + (side_at level - 1)) within-across

  last-down : down_bits (last_key k level) ≡ down_key (Y k + (side_at level - 1))
  last-down = ap down_bits last-key ∙ down-bits (X k + (side_at level - 1)) (Y k + (side_at level - 1)) within-down

  -- a cell that lies beyond a side of a window does not touch it
  pub beyond-apart : w.right < 65536 → w.bottom < 65536 → (item : ℕ) → T (beyond (sides_of w) k level) → cell_touches w (entry k level item) ≡ false
  unfolding beyond cell_touches entry_square square_of_key square_box apart z_order
  beyond-apart hr hb item t =
      let s = side_at level in
      let pos = side-positive level in
      let low_x = ltb (across_bits (last_key k level)) (across_key (w.left - 1)) in
      let high-x = ltb (across_key w.right) (across_bits k) in
      let low-y = ltb (down_bits (last_key k level)) (down_key (w.top - 1)) in
      let high-y = ltb (down_key w.bottom) (down_bits k) in
      let left = ltb (X k + s) w.left in
      let right = ltb w.right (X k) in
      let top = ltb (Y k + s) w.top in
      let bottom = ltb w.bottom (Y k) in
      let at_left : T low_x → T left =
      λ u. too-low across_key (across-mono depth) w.left (X k) s pos within-across (rw last-across at u)
      in
      let at_right : T high-x → T right =
      λ u. too-high across_key (across-mono depth) w.right (X k) hr (rw first-across at u)
      in
      let at_top : T low-y → T top =
      λ u. too-low down_key (down-mono depth) w.top (Y k) s pos within-down (rw last-down at u)
      in
      let at-bottom : T high-y → T bottom =
      λ u. too-high down_key (down-mono depth) w.bottom (Y k) hb (rw first-down at u)
      in
      test-false
      (not-passed (left || right || top || bottom)
      (either (low_x || high-x || low-y) high-y (left || right || top) bottom
      (either (low_x || high-x) low-y (left || right) top (either low_x high-x left right at_left at_right) at_top)
      at-bottom t))
