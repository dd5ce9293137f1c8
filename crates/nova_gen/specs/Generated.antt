-- The scenario of a bench.
use Rattle.std.specs.Prelude.{ℕ, List, [], ◌∷◌, ◌++◌, codes}
use Rattle.std.specs.Fmt.{decimal}

-- a machine of one processor and two frames of RAM
unfoldable pub settings : List ℕ
settings = codes "cpus 1\nram 1\nconsoles 0\nroot 0 0 1 10\nimage 0 asm\n"

-- x8 counts the domains
unfoldable pub count_line : ℕ → List ℕ
count_line number = codes "li x8, " ++ (decimal number ++ 10 ∷ [])

-- x9 is the selector of the next domain: in each pass a domain is made, and given the first page to read
unfoldable pub passes : List ℕ
passes = codes "addi x9, x0, 64\nloop:\naddi x17, x0, 2\naddi x10, x9, 0\naddi x12, x0, 5\necall\naddi x9, x9, 1\naddi x8, x8, -1\nbne x8, x0, loop\n"

-- all that was given is taken back
unfoldable pub revoke : List ℕ
revoke = codes "addi x17, x0, 7\naddi x10, x0, 1\necall\nebreak\nend\n"

abbrev pub generated : ℕ → List ℕ
generated number = settings ++ (count_line number ++ (passes ++ revoke))
