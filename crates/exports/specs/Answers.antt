-- Each answer as one number of 64 bits, and a checksum over answers.
use Rattle.std.specs.Prelude.{ℕ, ◌+◌, ◌-◌, ◌*◌, ◌%◌, ◌^◌, cond, List, fold, length, drop, ◌==◌, nat_lt, slice_index_or}

-- one more digit behind a number, to a base; what no longer fits 64 bits goes
abbrev pub extended : ℕ → ℕ → ℕ → ℕ
extended base sum digit = (base * sum + digit) % 2 ^ 64

-- the numbers of an answer as digits
abbrev pub packed : ℕ → List ℕ → ℕ
packed base says = fold (extended base) 0 says

-- the last k numbers of an answer
abbrev pub last : ℕ → List ℕ → List ℕ
last k says = drop (length says - k) says

abbrev pub begin_number : List ℕ → ℕ
begin_number says = packed 65536 says

-- a turn's count, number brought and arcs, or its refusal
abbrev pub turn_number : List ℕ → ℕ
turn_number says = packed 65536 (last 3 says)

abbrev pub opening_number : List ℕ → ℕ
opening_number says = packed 65536 says

-- a step's count and number brought, or its refusal with its values
abbrev pub step_number : List ℕ → ℕ
step_number says = packed 65536 (cond (slice_index_or says 0 1 == 0) (last 2 says) says)

-- how a run ended, with its steps, which take more than 16 bits; or its refusal
abbrev pub run_number : List ℕ → ℕ
run_number says = packed (cond (nat_lt (slice_index_or says 0 0) 2) (2 ^ 32) 65536) says

-- the checksum with one more number
abbrev pub mixed : ℕ → ℕ → ℕ
mixed sum number = extended 31 sum number
