-- The numbers of refusals and of faults.
use Rattle.std.specs.Prelude.{ℕ, Bool, ◌||◌, ◌==◌}

abbrev pub is_fault : ℕ → Bool
is_fault k = k == 1 || k == 2 || k == 3 || k == 4

-- the refusals of each stage

abbrev pub is_of_tokens : ℕ → Bool
is_of_tokens n = n == 1 || n == 2 || n == 3 || n == 4 || n == 5

abbrev pub is_of_tree : ℕ → Bool
is_of_tree n = n == 10 || n == 11

abbrev pub is_of_names : ℕ → Bool
is_of_names n = n == 20 || n == 21 || n == 22 || n == 23

abbrev pub is_of_uses : ℕ → Bool
is_of_uses n = n == 24 || n == 25 || n == 26

abbrev pub is_of_runs : ℕ → Bool
is_of_runs n = n == 40 || n == 60 || n == 61 || n == 63 || n == 64 || n == 65

-- want of memory
abbrev pub is_memory : ℕ → Bool
is_memory n = n == 6 || n == 12 || n == 27 || n == 30 || n == 41 || n == 50 || n == 62

abbrev pub is_refusal : ℕ → Bool
is_refusal n = ((((is_of_tokens n || is_of_tree n) || is_of_names n) || is_of_uses n) || is_of_runs n) || is_memory n
