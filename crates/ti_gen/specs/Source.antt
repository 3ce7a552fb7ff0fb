-- The source of the program of a seed.
use Rattle.std.specs.Prelude.{ℕ, zero, suc, ◌+◌, ◌-◌, ◌*◌, ◌/◌, ◌%◌, ◌^◌, List, [], ◌++◌, codes, decimal}

-- ---- pseudo-random numbers

-- the number after this one: a linear congruential generator
abbrev pub next : ℕ → ℕ
next x = (1664525 * x + 1013904223) % 2 ^ 32

-- the number with this index; number 0 is the seed
unfoldable pub number_at : ℕ → ℕ → ℕ
number_at seed zero = seed
number_at seed (suc place) = next (number_at seed place)

-- ---- steps

-- the number of steps, which count from 1
abbrev pub step_total : ℕ
step_total = 200

-- the factor of step k
abbrev pub factor_of : ℕ → ℕ → ℕ
factor_of seed k = number_at seed (2 * k - 1) / 65536

-- the index of step k
abbrev pub index_of : ℕ → ℕ → ℕ
index_of seed k = number_at seed (2 * k) / 65536 % 20

-- the lines of a step with this factor and index
unfoldable pub step_text : ℕ → ℕ → List ℕ
step_text factor index =
    codes "    foreach (p in a.domain()) a[p] = a[p] + " ++ decimal factor ++ codes " * (me + p[1]);\n"
    ++ codes "    Ti.barrier();\n"
    ++ codes "    s = s + all[(me + 1) % n][" ++ decimal index ++ codes "];\n"
    ++ codes "    Ti.barrier();\n"

-- the lines of steps 1 to n
unfoldable pub steps_text : ℕ → ℕ → List ℕ
steps_text seed zero = []
steps_text seed (suc n) = steps_text seed n ++ step_text (factor_of seed (suc n)) (index_of seed (suc n))

-- ---- the whole source

-- the lines before the steps
abbrev pub first_lines : List ℕ
first_lines =
    codes "class Main {\n"
    ++ codes "  public static single void main(String[] args) {\n"
    ++ codes "    int me = Ti.thisProc();\n"
    ++ codes "    int single n = Ti.numProcs();\n"
    ++ codes "    int [1d] a = new int [0:19];\n"
    ++ codes "    int [1d] [1d] all = new int [0:n - 1] [1d];\n"
    ++ codes "    all.exchange(a);\n"
    ++ codes "    int s = 0;\n"

-- the lines after the steps
abbrev pub last_lines : List ℕ
last_lines = codes "    println(s);\n" ++ codes "  }\n" ++ codes "}\n"

unfoldable pub source_text : ℕ → List ℕ
source_text seed = first_lines ++ steps_text seed step_total ++ last_lines
