-- Computed examples: rows with numbers of one to four digits, and where a digit is added. By computation. Assumes nothing.
use Rattle.std.specs.Prelude.{◌≡◌, refl, [], ◌∷◌, map}
use Rattle.model.specs.Text.{bytes_of}
use Rattle.rows.specs.Printed.{aligned, printed}

-- rows whose numbers are large
rows : map printed (
    record { kind = 1; number = 8; count = 1023; first = 1000; last = 999; holder = 0; wakeup = 0 }
    ∷ record { kind = 2; number = 255; count = 10; first = 9; last = 100; holder = 1023; wakeup = 0 }
    ∷ record { kind = 3; number = 10; count = 1; first = 99; last = 99; holder = 0; wakeup = 1 }
    ∷ [])
    ≡ map bytes_of ("PK   8 1023 1000  999    0 0\n" ∷ "LK 255   10    9  100 1023 0\n" ∷ "CN  10    1   99   99    0 1\n" ∷ [])
unfolding printed aligned
rows = refl

-- where a digit is added
places : map (aligned 4) (0 ∷ 9 ∷ 10 ∷ 99 ∷ 100 ∷ 999 ∷ 1000 ∷ 1023 ∷ [])
    ≡ map bytes_of ("   0" ∷ "   9" ∷ "  10" ∷ "  99" ∷ " 100" ∷ " 999" ∷ "1000" ∷ "1023" ∷ [])
unfolding aligned
places = refl
