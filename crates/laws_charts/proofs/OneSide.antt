-- "Sides with the same two end points are one side": whether a square is stopped is the same for every list that has the table's
-- sides, each in either direction and as often as one likes, so a side that repeats can be left out.
-- The idea: a side from its other end has the same ends and meets the same squares.
-- Assumes nothing.
use mathlib.Core.Path.{◌≡◌, refl, subst, ◌∙◌, ap}
use mathlib.Core.Bool.{Bool, ◌||◌}
use mathlib.Core.List.Memᴰ
use mathlib.Core.List.{List, ◌∷◌, ◌++◌, Memᴰ}
use mathlib.Core.Logic.{◌⊎◌, inl, inr}
use lib.Dec.{T, eqb}
use Rattle.theory_lists.specs.Lists.{filter}
use Rattle.theory_lists.proofs.Reflects.{reflects-iff}
use Rattle.theory_lists.proofs.ListsLaws.{Every, Some}
use Rattle.theory_lists.proofs.MemberLaws.{filter-to, filter-from}
use Rattle.theory_lists.proofs.IndexLaws.{reflects-same}
use Rattle.spec_plane.specs.declared.Point.{Point}
use Rattle.spec_plane.specs.Triangle.{Side}
use Rattle.spec_plane.specs.Box.{Box, side_meets}
use Rattle.spec_plane.proofs.SideLaws.{reversed, side_meets-reversed}
use Rattle.spec_squares.specs.declared.Square.{Square}
use Rattle.spec_squares.specs.Square.{depth, square_box}
use Rattle.spec_charts.specs.Table.{Table, table_sides}
use Rattle.spec_charts.specs.Cells.{sides_meeting, common_end, stopped}
use Rattle.laws_charts.proofs.CellsLaws.{CommonEnd, common_end-reflects}

-- "the same two end points": the side itself, or the side from its other end
abbrev pub SameEnds : Side → Side → Type 0
SameEnds d e = (d ≡ e) ⊎ (d ≡ reversed e)

-- each side of the first list is one of the second
abbrev pub SidesAmong : List Side → List Side → Type 0
SidesAmong ds es = Every (λ d. Some (SameEnds d) es) ds

-- the stopping rule by a list of sides
unfoldable pub stopped_by : List Side → Square → Bool
stopped_by ds s = eqb s.level depth || common_end (filter (λ d. side_meets d (square_box s)) ds)

same_meets : {d e : Side} → SameEnds d e → (b : Box) → side_meets d b ≡ side_meets e b
same_meets (inl q) b = ap (λ x. side_meets x b) q
same_meets {e = e} (inr q) b = ap (λ x. side_meets x b) q ∙ side_meets-reversed e b

same_ends : (p : Point) {d e : Side} → SameEnds d e → (p ≡ e.start) ⊎ (p ≡ e.end) → (p ≡ d.start) ⊎ (p ≡ d.end)
same_ends p (inl q) h = rw q h
same_ends p (inr q) (inl h) = inr (rw q h)
same_ends p (inr q) (inr h) = inl (rw q h)

-- a point that is an end of all sides of a list that meet the box is one of those of a list among it
common-among : (b : Box) {ds es : List Side} → SidesAmong ds es
    → CommonEnd (filter (λ d. side_meets d b) es) → CommonEnd (filter (λ d. side_meets d b) ds)
common-among b {ds} {es} among c = record {
  point = c.point;
  ends = λ d m.
      let n = filter-to (λ d. side_meets d b) ds m in
      let same = among d n.0 in
      same_ends c.point same.has
      (c.ends same.value (filter-from (λ d. side_meets d b) es same.member (subst T (same_meets same.has b) n.1)));
}

-- lists with the same sides stop the same squares
pub stopped-by-sides : (ds es : List Side) → SidesAmong ds es → SidesAmong es ds → (s : Square) → stopped_by ds s ≡ stopped_by es s
unfolding stopped_by
stopped-by-sides ds es to from s =
    let meeting : List Side → List Side = λ l. filter (λ d. side_meets d (square_box s)) l in
    ap (λ c. eqb s.level depth || c)
    (reflects-same (reflects-iff (common-among (square_box s) from) (common-among (square_box s) to) (common_end-reflects (meeting ds)))
    (common_end-reflects (meeting es)))

-- a table's sides with one that repeats, in either direction, left out: the same squares are stopped
pub stopped-without-repeated : (table : Table) (ds es : List Side) (d e : Side) → table_sides table ≡ ds ++ d ∷ es
    → Memᴰ e (ds ++ es) → SameEnds d e → (s : Square) → stopped table s ≡ stopped_by (ds ++ es) s
unfolding stopped sides_meeting stopped_by
stopped-without-repeated table ds es d e sides m same s =
    ap (λ l. stopped_by l s) sides ∙ stopped-by-sides (ds ++ d ∷ es) (ds ++ es) to from s
  where
    itself : (x : Side) → Memᴰ x (ds ++ es) → Some (SameEnds x) (ds ++ es)
    itself x n = record { value = x; member = n; has = inl refl }

    last : (x : Side) → (x ≡ d) ⊎ Memᴰ x es → Some (SameEnds x) (ds ++ es)
    last x (inl q) = record { value = e; member = m; has = rw q same }
    last x (inr n) = itself x (Memᴰ.append_right ds n)

    to : SidesAmong (ds ++ d ∷ es) (ds ++ es)
    to x n = elim (Memᴰ.append_cases ds n) [
      | inl h ↦ itself x (Memᴰ.append_left es h)
      | inr h ↦ last x (Memᴰ.cases_cons h)
    ]

    with_it : (x : Side) → Memᴰ x ds ⊎ Memᴰ x es → Memᴰ x (ds ++ d ∷ es)
    with_it x (inl h) = Memᴰ.append_left (d ∷ es) h
    with_it x (inr h) = Memᴰ.append_right ds (Memᴰ.tail h)

    from : SidesAmong (ds ++ es) (ds ++ d ∷ es)
    from x n = record { value = x; member = with_it x (Memᴰ.append_cases ds n); has = inl refl }
