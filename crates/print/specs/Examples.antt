-- Computed examples: two answers' lines, and where a digit is added. By computation. Assumes nothing.
use Rattle.std.specs.Prelude.{◌≡◌, refl, [], ◌∷◌, map}
use Rattle.model.specs.Text.{bytes_of}
use Rattle.print.specs.Print.{decimal, printed}

-- the answer to the seventh of 01's nine lines, and one with fields of two to five digits
answers : map printed (record { code = 0; running = 2; retry = 1; mark = 0; moved = 1; ahead = 0 } ∷ record { code = 65535; running = 10000; retry = 9999; mark = 100; moved = 10; ahead = 1023 } ∷ [])
    ≡ map bytes_of ("0 2 1 0 1 0\n" ∷ "65535 10000 9999 100 10 1023\n" ∷ [])
answers = refl

-- where a digit is added
widths : map decimal (0 ∷ 9 ∷ 10 ∷ 99 ∷ 100 ∷ 999 ∷ 1000 ∷ 9999 ∷ 10000 ∷ 65535 ∷ [])
    ≡ map bytes_of ("0" ∷ "9" ∷ "10" ∷ "99" ∷ "100" ∷ "999" ∷ "1000" ∷ "9999" ∷ "10000" ∷ "65535" ∷ [])
widths = refl
