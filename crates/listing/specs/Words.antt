-- A word as a number.
use Rattle.std.specs.Prelude.{ℕ, ◌+◌, ◌-◌, ◌*◌, cond, ◌&&◌, List, length, Some, None, Option, nat_le, nat_lt}
use Rattle.std.specs.Str.Parse.{digits_value}
use Rattle.std.specs.Char.{is_ascii_digit}
use Rattle.std.specs.Str.{all_ascii_digits}

-- one digit or more, and at most 65,535
abbrev pub argument : List ℕ → Option ℕ
argument w = cond (nat_lt 0 (length w) && (all_ascii_digits w && nat_le (digits_value 10 w) 65535)) (Some (digits_value 10 w)) None

-- a number with one digit more
abbrev pub with_digit : ℕ → ℕ → Option ℕ
with_digit n c = cond (is_ascii_digit c && nat_le (n * 10 + (c - 48)) 65535) (Some (n * 10 + (c - 48))) None
