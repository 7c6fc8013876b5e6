-- A test that computes, and the claim that it decides: `Reflects b P` says that b is true where P holds and false where it
-- does not. It goes through "and", "or" and "not", so the test of a definition is read off part by part.
-- Assumes nothing.
use mathlib.Core.Path.{◌≡◌, refl}
use mathlib.Core.Bool.{Bool, true, false, true≢false, not, ◌&&◌, ◌||◌}
use mathlib.Core.Logic.{◌⊎◌, inl, inr}
use Prim.Native.Nat.{ℕ, ◌≤◌, ◌<◌}
use lib.IntN.{ℤ}
use lib.Signed.{lt_z, le_z, ◌≤ℤ◌, ◌<ℤ◌, le_z_yes, lt_z_yes}
use lib.Dec.{T, leb, ltb, eqb, leb→le, le→leb, ltb→lt, lt→ltb, eqb→eq, eqb_refl}

-- a record, so that b and P can be inferred from a proof of it
pub record Reflects (b : Bool) (P : Type 0) : Type 0 where
  pub to : T b → P
  pub from : P → T b

pub reflects-dec : {b : Bool} {P : Type 0} → Reflects b P → Dec P
reflects-dec {b = true} r = yes (r.to tt)
reflects-dec {b = false} r = no r.from

pub reflects-leb : (m n : ℕ) → Reflects (leb m n) (m ≤ n)
reflects-leb m n = record { to = leb→le m n; from = le→leb m n }

pub reflects-ltb : (m n : ℕ) → Reflects (ltb m n) (m < n)
reflects-ltb m n = record { to = ltb→lt m n; from = lt→ltb m n }

pub reflects-eqb : (m n : ℕ) → Reflects (eqb m n) (m ≡ n)
reflects-eqb m n = record { to = eqb→eq m n; from = λ e. rw e (eqb_refl n) }

-- of a test that is an order's
pub reflects-le : {b : Bool} {m n : ℕ} → b ≡ leb m n → Reflects b (m ≤ n)
reflects-le {m = m} {n = n} e = rw e (reflects-leb m n)

pub reflects-le_z : {a b : ℤ} → Reflects (le_z a b) (a ≤ℤ b)
reflects-le_z = record { to = le_z_yes; from = λ h. h.le }

pub reflects-lt_z : {a b : ℤ} → Reflects (lt_z a b) (a <ℤ b)
reflects-lt_z = record { to = lt_z_yes; from = λ h. h.lt }

pub reflects-and : {a b : Bool} {P Q : Type 0} → Reflects a P → Reflects b Q → Reflects (a && b) (P × Q)
reflects-and {a = true} p q = record { to = λ t. (p.to tt, q.to t); from = λ h. q.from h.1 }
reflects-and {a = false} p q = record { to = λ t. absurd t; from = λ h. p.from h.0 }

pub reflects-and₃ : {a b c : Bool} {P Q R : Type 0} → Reflects a P → Reflects b Q → Reflects c R → Reflects (a && b && c) (P × (Q × R))
reflects-and₃ p q r =
    let s = reflects-and (reflects-and p q) r in
    record { to = λ t. let h = s.to t in (h.0.0, (h.0.1, h.1)); from = λ h. s.from ((h.0, h.1.0), h.1.1) }

-- the same where the second test is made only if the first passes
pub reflects-then : (a : Bool) {b : Bool} {P Q : Type 0} → Reflects a P → Reflects b Q → Reflects (elim a [ true ↦ b | false ↦ false ]) (P × Q)
reflects-then true p q = record { to = λ t. (p.to tt, q.to t); from = λ h. q.from h.1 }
reflects-then false p q = record { to = λ t. absurd t; from = λ h. p.from h.0 }

-- or only if the first does not pass
pub reflects-else : (a : Bool) {b : Bool} {P Q : Type 0} → Reflects a P → Reflects b Q → Reflects (elim a [ true ↦ true | false ↦ b ]) (P ⊎ Q)
reflects-else true p q = record { to = λ t. inl (p.to tt); from = λ h. tt }
reflects-else false p q = record { to = λ t. inr (q.to t); from = elim [ inl x ↦ absurd (p.from x) | inr x ↦ q.from x ] }

-- the claim may be put in other words
pub reflects-iff : {b : Bool} {P Q : Type 0} → (P → Q) → (Q → P) → Reflects b P → Reflects b Q
reflects-iff f g r = record { to = λ t. f (r.to t); from = λ q. r.from (g q) }

pub reflects-test : (b : Bool) → Reflects b (T b)
reflects-test b = record { to = λ t. t; from = λ t. t }

pub reflects-or : {a b : Bool} {P Q : Type 0} → Reflects a P → Reflects b Q → Reflects (a || b) (P ⊎ Q)
reflects-or {a = true} p q = record { to = λ t. inl (p.to tt); from = λ h. tt }
reflects-or {a = false} p q = record { to = λ t. inr (q.to t); from = elim [ inl x ↦ absurd (p.from x) | inr x ↦ q.from x ] }

-- the other way round: b is false where P holds and true where it does not
pub record Refutes (b : Bool) (P : Type 0) : Type 0 where
  pub to : (T b → ⊥) → P
  pub from : P → T b → ⊥

pub refutes-or : {a b : Bool} {P Q : Type 0} → Refutes a P → Refutes b Q → Refutes (a || b) (P × Q)
refutes-or {a = true} p q = record { to = λ n. absurd (n tt); from = λ h t. p.from h.0 t }
refutes-or {a = false} p q = record { to = λ n. (p.to (λ t. t), q.to n); from = λ h t. q.from h.1 t }

pub reflects-not : {b : Bool} {P : Type 0} → Refutes b P → Reflects (not b) P
reflects-not {b = true} r = record { to = λ t. absurd t; from = λ h. r.from h tt }
reflects-not {b = false} r = record { to = λ t. r.to (λ n. n); from = λ h. tt }

-- the negation of what a test decides
pub reflects-no : {b : Bool} {P : Type 0} → Reflects b P → Reflects (not b) (P → ⊥)
reflects-no {b = true} r = record { to = λ t. absurd t; from = λ n. n (r.to tt) }
reflects-no {b = false} r = record { to = λ t p. r.from p; from = λ n. tt }

-- a test that passes is true, and one that does not is false
pub test-true : {b : Bool} → T b → b ≡ true
test-true {b = true} t = refl
test-true {b = false} t = absurd t

pub test-false : {b : Bool} → (T b → ⊥) → b ≡ false
test-false {b = true} n = absurd (n tt)
test-false {b = false} n = refl

-- a test from what it decides
pub reflects-true : {b : Bool} {P : Type 0} → Reflects b P → P → b ≡ true
reflects-true {b = true} r p = refl
reflects-true {b = false} r p = absurd (r.from p)

pub reflects-false : {b : Bool} {P : Type 0} → Reflects b P → (P → ⊥) → b ≡ false
reflects-false {b = true} r n = absurd (n (r.to tt))
reflects-false {b = false} r n = refl

-- neither of two tests holds where "or" fails
pub or-neither : (a b : Bool) → a || b ≡ false → (a ≡ false) × (b ≡ false)
or-neither true b h = absurd (true≢false h)
or-neither false b h = (refl, h)
