-- Examples of Encoding.antt.
-- Assumes nothing.
use mathlib.Core.Path.{◌≡◌, refl}
use mathlib.Core.Bool.{true, false}
use mathlib.Core.List.{[], ◌∷◌, ◌++◌, map, flat_map}
use lib.ListN.{replicate}
use Rattle.theory_lists.specs.Lists.{all}
use Rattle.spec_charts.specs.Table.{point_at, sixteen_bit}
use Rattle.spec_charts.specs.Edits.{load, insert, take_out, flip}
use Rattle.spec_charts.proofs.Written.{at}
use Rattle.replay_calls.specs.Encoding.{call_length, whole_call, call_event, decode_up_to, decode, call_numbers, encode, expressible, shortened, point_fits, clipped}

-- for the commands 0 to 9, where 5000000009 comes next; a number beyond 2^32 is no command, whatever its low bits are
call_length-example :
    map (λ k. call_length k 5000000009)
    (0 ∷ 1 ∷ 2 ∷ 3 ∷ 4 ∷ 5 ∷ 6 ∷ 7 ∷ 8 ∷ 9 ∷ 4294967298 ∷ 4294967299 ∷ 4294967300 ∷ 4294967301 ∷ [])
    ≡ 0 ∷ 0 ∷ 5000000011 ∷ replicate 3 3 ++ replicate 8 0
unfolding call_length
call_length-example = refl

-- whole calls with a number after them, then a load of 65,536 numbers, then calls that are cut
whole_call-example :
    map (λ ns. whole_call ns)
    ((2 ∷ 1 ∷ 9 ∷ 9 ∷ []) ∷ (2 ∷ 0 ∷ 9 ∷ []) ∷ (3 ∷ 6 ∷ 7 ∷ 9 ∷ []) ∷ (4 ∷ 6 ∷ 7 ∷ 9 ∷ []) ∷ (5 ∷ 6 ∷ 7 ∷ 9 ∷ []) ∷ (2 ∷ 65536 ∷ replicate 65536 9) ∷ []
    ) ≡ 3 ∷ 2 ∷ 3 ∷ 3 ∷ 3 ∷ 65538 ∷ []
unfolding whole_call call_length
whole_call-example = refl

cut-example :
    map (λ ns. whole_call ns)
    ([] ∷ (2 ∷ []) ∷ (2 ∷ 2 ∷ 9 ∷ []) ∷ (2 ∷ 4294967296 ∷ 9 ∷ []) ∷ (3 ∷ 6 ∷ []) ∷ (4 ∷ 6 ∷ []) ∷ (5 ∷ 6 ∷ []) ∷ (6 ∷ 7 ∷ 8 ∷ 9 ∷ []) ∷ (8 ∷ 6 ∷ 7 ∷ 9 ∷ []) ∷ (4294967298 ∷ 0 ∷ 9 ∷ []) ∷ []
    ) ≡ replicate 10 0
unfolding whole_call call_length
cut-example = refl

-- the numbers of a call, whole; any command but 2, 3 and 4 is a flip here
call_event-example :
    map (λ k. call_event (k ∷ 5000000006 ∷ 6000000007 ∷ 7000000008 ∷ []))
    (2 ∷ 3 ∷ 4 ∷ 5 ∷ 7 ∷ 9 ∷ 4294967298 ∷ 4294967299 ∷ 4294967300 ∷ [])
    ≡ load (6000000007 ∷ 7000000008 ∷ [])
    ∷ insert (at 5000000006 6000000007)
    ∷ take_out (at 5000000006 6000000007)
    ∷ replicate 6 (flip 5000000006 6000000007)
unfolding call_event point_at
call_event-example = refl

-- at most two calls; a load of 65,534 numbers, which with its command takes 65,536, and a flip after it
decode_up_to-example :
    decode_up_to 2 (4 ∷ 1 ∷ 2 ∷ 5 ∷ 3 ∷ 4 ∷ 5 ∷ 6 ∷ 7 ∷ []) ∷ decode_up_to 2 (2 ∷ 65534 ∷ replicate 65534 9 ++ (5 ∷ 3 ∷ 4 ∷ [])) ∷ []
    ≡ (take_out (at 1 2) ∷ flip 3 4 ∷ []) ∷ (load (replicate 65534 9) ∷ flip 3 4 ∷ []) ∷ []
unfolding decode_up_to call_event whole_call call_length point_at
decode_up_to-example = refl

-- all calls; an unknown command ends the list, and so does a call that is cut; 65,536 numbers
decode-example :
    map (λ ns. decode ns)
    ((5 ∷ 3 ∷ 4 ∷ 2 ∷ 0 ∷ 3 ∷ 5 ∷ 6 ∷ []) ∷ (2 ∷ 1 ∷ 3 ∷ 4 ∷ 1 ∷ 2 ∷ 6 ∷ 5 ∷ 8 ∷ 9 ∷ []) ∷ (4 ∷ 1 ∷ 2 ∷ 5 ∷ 3 ∷ []) ∷ (3 ∷ 8 ∷ 4 ∷ 4 ∷ 3 ∷ 5 ∷ 8 ∷ 3 ∷ 1 ∷ 2 ∷ []) ∷ (2 ∷ 65534 ∷ replicate 65534 9) ∷ []
    ) ≡ (flip 3 4 ∷ load [] ∷ insert (at 5 6) ∷ []) ∷ (load (3 ∷ []) ∷ take_out (at 1 2) ∷ []) ∷ (take_out (at 1 2) ∷ []) ∷ (insert (at 8 4) ∷ take_out (at 3 5) ∷ []) ∷ (load (replicate 65534 9) ∷ []) ∷ []
unfolding decode decode_up_to call_event whole_call call_length point_at
decode-example = refl

call_numbers-example :
    map (λ e. call_numbers e)
    (load (5000000008 ∷ 9 ∷ [])
    ∷ load (replicate 65536 9)
    ∷ insert (at 5000000006 6000000007)
    ∷ take_out (at 5000000006 6000000007)
    ∷ flip 5000000006 6000000007
    ∷ [])
    ≡ (2 ∷ 2 ∷ 5000000008 ∷ 9 ∷ [])
    ∷ (2 ∷ 65536 ∷ replicate 65536 9)
    ∷ (3 ∷ 5000000006 ∷ 6000000007 ∷ [])
    ∷ (4 ∷ 5000000006 ∷ 6000000007 ∷ [])
    ∷ (5 ∷ 5000000006 ∷ 6000000007 ∷ [])
    ∷ []
unfolding call_numbers
call_numbers-example = refl

encode-example : encode (flip 3 4 ∷ load [] ∷ insert (at 5 6) ∷ take_out (at 8 7) ∷ []) ≡ 5 ∷ 3 ∷ 4 ∷ 2 ∷ 0 ∷ 3 ∷ 5 ∷ 6 ∷ 4 ∷ 8 ∷ 7 ∷ []
unfolding encode call_numbers flat_map
encode-example = refl

-- the largest numbers that 16 bits hold, and one more; 65,535 numbers of a load, and one more
expressible-example :
    map (λ e. expressible e)
    (insert (at 65535 65535) ∷ insert (at 65536 0) ∷ insert (at 0 65536) ∷ take_out (at 65535 65535) ∷ take_out (at 65536 0) ∷ take_out (at 0 65536)
    ∷ flip 65535 65535 ∷ flip 65536 0 ∷ flip 0 65536 ∷ load (65535 ∷ []) ∷ load (65536 ∷ []) ∷ load (replicate 65535 0) ∷ load (replicate 65536 0)
    ∷ [])
    ≡ true ∷ false ∷ false ∷ true ∷ false ∷ false ∷ true ∷ false ∷ false ∷ true ∷ false ∷ true ∷ false ∷ []
unfolding expressible call_numbers sixteen_bit all
expressible-example = refl

shortened-example :
    map (λ e. shortened e)
    (load (replicate 65535 0) ∷ load (replicate 65536 0) ∷ insert (at 7 70000) ∷ insert (at 70000 7) ∷ take_out (at 7 70000) ∷ take_out (at 70000 7)
    ∷ flip 65536 65534 ∷ flip 65535 70000
    ∷ [])
    ≡ load (replicate 65535 0) ∷ load (replicate 7 0) ∷ insert (at 7 70000) ∷ insert (at 70000 7) ∷ take_out (at 7 70000) ∷ take_out (at 70000 7)
    ∷ flip 65535 65534 ∷ flip 65535 65535
    ∷ []
unfolding shortened
shortened-example = refl

point_fits-example :
    map (λ e. point_fits e)
    (load (70000 ∷ []) ∷ flip 70000 70000 ∷ insert (at 65535 65535) ∷ insert (at 65536 0) ∷ insert (at 0 65536)
    ∷ take_out (at 65535 65535) ∷ take_out (at 65536 0) ∷ take_out (at 0 65536)
    ∷ [])
    ≡ true ∷ true ∷ true ∷ false ∷ false ∷ true ∷ false ∷ false ∷ []
unfolding point_fits sixteen_bit all
point_fits-example = refl

clipped-example :
    map (λ e. clipped e) (insert (at 65535 6) ∷ insert (at 65536 6) ∷ insert (at 6 65536) ∷ take_out (at 6 65536) ∷ take_out (at 6 7) ∷ flip 70000 3 ∷ [])
    ≡ insert (at 65535 6) ∷ load (replicate 7 0) ∷ load (replicate 7 0) ∷ load (replicate 7 0) ∷ take_out (at 6 7) ∷ flip 65535 3 ∷ []
unfolding clipped shortened point_fits sixteen_bit all
clipped-example = refl
