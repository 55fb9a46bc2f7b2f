-- The nine words of the records that 01 writes after its start, read as the ready ring: process 2, then 1, then 3. Assumes nothing.
use mathlib.Core.Path.{◌≡◌, refl}
use mathlib.Core.List.{List, [], ◌∷◌}
use Prim.Native.Nat.{ℕ}
use native.Mathlib.Omega.{arith}
use Rattle.links.specs.Link.{next, point}
use Rattle.ring.specs.Ring.{Ring}
use Rattle.ring.proofs.Rings.{to_ring}

-- hex 4018 0000 0000 A008 0000 0000 4010 0000 0000
abbrev records : List ℕ
records = 16408 ∷ 0 ∷ 0 ∷ 40968 ∷ 0 ∷ 0 ∷ 16400 ∷ 0 ∷ 0 ∷ []

ready : Ring records 3 (2 ∷ 1 ∷ 3 ∷ [])
unfolding next
ready = to_ring (refl, (refl, (refl, tt))) refl (omega arith, (omega arith, (omega arith, tt))) ((omega arith, (omega arith, tt)), ((omega arith, tt), (tt, tt)))

-- process 1 leaves
left : point records 2 (next records 1) ≡ 16408 ∷ 0 ∷ 0 ∷ 40984 ∷ 0 ∷ 0 ∷ 16400 ∷ 0 ∷ 0 ∷ []
unfolding point next
left = refl
