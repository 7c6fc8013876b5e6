-- Lengths where the first places of a list of zeros are lent, and come back with other contents.
-- Assumes nothing.
use mathlib.Core.Path.{◌≡◌}
use mathlib.Core.List.{List, ◌++◌}
use Prim.Native.Nat.{ℕ, ◌≤◌}
use native.Mathlib.Omega.{arith}
use lib.ListN.{length, take, drop, replicate, length-append, length-drop, length-replicate}
use lib.Seq.{length-take-le}

abbrev zeros : ℕ → List ℕ
zeros m = replicate m 0

zeros-length : (m : ℕ) → length (zeros m) ≡ m
zeros-length m = length-replicate {A = ℕ} m 0

pub lent_length : (k m : ℕ) → k ≤ m → k ≡ length (take k (zeros m))
lent_length k m h =
    let e = zeros-length m in
    omega (arith, length-take-le k (zeros m) (omega (arith, e)))

pub back-length : (k m : ℕ) (part : List ℕ) → k ≤ m → length part ≡ length (take k (zeros m)) → m ≡ length (part ++ drop k (zeros m))
back-length k m part h e =
    omega (arith, lent_length k m h, zeros-length m, length-append part (drop k (zeros m)), length-drop k (zeros m))
