-- Packed entries in the three entry lists: the loop that stores their parts, and zeros after them.
-- Assumes nothing.
use mathlib.Core.Path.{◌≡◌, refl, sym, ◌∙◌, ap, subst}
use mathlib.Core.List.{List, ◌++◌, map}
use Prim.Native.Nat.{ℕ, ◌+◌, ◌-◌, ◌≤◌, ◌<◌}
use native.Mathlib.Nat.{zero-add}
use native.Mathlib.Omega.{arith}
use lib.ListN.{length, get_or, take, drop, set, replicate, length-take, length-drop, length-replicate}
use lib.Seq.{sets, sets-eq, take_all}
use Rattle.spec_charts.specs.Cells.{max_entries}
use Rattle.spec_calls.specs.Buffers.{Roomy}
use Rattle.laws_calls.proofs.PaddedLaws.{padded-stored}
use Rattle.base_entries.specs.Packed.{key_of, level_of, item_of}
use Rattle.theory_lists.proofs.CopyLaws.{Copying, copying-start, copying-next, copying-end, images-count}
use Rattle.chart_lists.specs.Columns.{Columns, unpacked, zeros, Stored, Filled}

-- a list that begins with u, and then is as before
pub start-stored : (u l : List ℕ) {n : ℕ} → length u ≡ n → n ≤ length l → u ++ drop n l ≡ sets l 0 u
start-stored u l e b = ap (λ m. u ++ drop m l) (sym e) ∙ sym (sets-eq u l 0 (omega arith) ∙ ap (λ m. u ++ drop m l) (zero-add (length u)))

-- the first i packed entries, of the first n, are stored by column
pub record Unpacking (es : List ℕ) (i n : ℕ) (before after : Columns) : Type 0 where
  pub keys : Copying key_of es before.keys after.keys 0 i n
  pub levels : Copying level_of es before.levels after.levels 0 i n
  pub items : Copying item_of es before.items after.items 0 i n

module _ (es : List ℕ) (n : ℕ) (before : Columns) where
  -- before the first
  pub unpacking-start : Unpacking es 0 n before before
  unpacking-start = record {
    keys = copying-start key_of es before.keys 0 n;
    levels = copying-start level_of es before.levels 0 n;
    items = copying-start item_of es before.items 0 n;
  }

  -- one more
  pub unpacking-next : {i : ℕ} {after : Columns} → Unpacking es i n before after → i < n → n ≤ length es
      → {k l t : ℕ} → k ≡ key_of (get_or es i 0) → l ≡ level_of (get_or es i 0) → t ≡ item_of (get_or es i 0)
      → Unpacking es (i + 1) n before (record { keys = set after.keys i k; levels = set after.levels i l; items = set after.items i t })
  unpacking-next {i} u h b key level item =
      let place : i ≡ 0 + i = sym (zero-add i) in
      record {
        keys = copying-next u.keys h b place key;
        levels = copying-next u.levels h b place level;
        items = copying-next u.items h b place item;
      }

  -- after the last of all
  pub unpacking-end : {i : ℕ} {after : Columns} → Unpacking es i n before after → n ≤ i → n ≡ length es → Stored 0 (unpacked es) before after
  unpacking-end {after = after} u h e =
      subst (λ l. Stored 0 (unpacked l) before after) (take_all n es (omega arith))
      (record { keys = copying-end u.keys h; levels = copying-end u.levels h; items = copying-end u.items h })

  -- and zeros after them
  pub filled : {between after : Columns} → n ≤ length es → n ≤ max_entries → Roomy max_entries before.keys before.levels before.items
      → Stored 0 (unpacked (take n es)) before between → Stored n (zeros (max_entries - n)) between after
      → Filled (unpacked (take n es)) before after
  filled a b r s z = record {
    keys = padded-stored max_entries (map key_of (take n es)) before.keys (images-count key_of es n a) b r.for_keys s.keys z.keys;
    levels = padded-stored max_entries (map level_of (take n es)) before.levels (images-count level_of es n a) b r.for_levels s.levels z.levels;
    items = padded-stored max_entries (map item_of (take n es)) before.items (images-count item_of es n a) b r.for_items s.items z.items;
  }
