-- What a run of calls leaves, turn by turn. Assumes nothing.
use Rattle.std.proofs.Common.{◌≡◌, ℕ, ◌+◌, ◌<◌, ◌≤◌, List, [], ◌∷◌, ◌++◌, length, get_or, take, drop, set, Some, ap, ◌∙◌, append_assoc, append-nil, arith}
use Rattle.std.proofs.lemmas.List.{take_more_set, take_all, drop_more, drop_all, drop-set-lt}
use Rattle.daybook.specs.declared.call.Answer.{Answer}
use Rattle.daybook.specs.declared.call.Logged.{Logged}
use Rattle.daybook.specs.Grid.{Grid}
use Rattle.daybook.specs.Runs.{answer_to, after, standing, answered, carried_out}

-- ---- one turn of a run, over a book whose ceiling is the same as ever
module _ (g g' : Grid) (now ceiling : ℕ) (kept : now ≡ ceiling) (log : List Logged) (i : ℕ) (d : Logged) (r : Answer) (within : i < length log)
    (answer : r ≡ answer_to g now (get_or log i d).call) (left : g' ≡ after g now (get_or log i d).call) where
  -- the log with the answer at place i
  noted : List Logged
  noted = set log i (record { call = (get_or log i d).call; answer = Some r })

  noted_is : noted ≡ set log i (answered g ceiling (get_or log i d))
  unfolding noted
  noted_is = rw (answer, kept)

  front_more : take (i + 1) noted ≡ take i log ++ answered g ceiling (get_or log i d) ∷ []
  front_more = ap (take (i + 1)) noted_is ∙ take_more_set log i (answered g ceiling (get_or log i d)) within

  back_more : drop (i + 1) noted ≡ drop (i + 1) log
  unfolding noted
  back_more = drop-set-lt (i + 1) log i (record { call = (get_or log i d).call; answer = Some r }) (omega arith)

  pub log_more : (whole : List Logged) → whole ≡ take i log ++ carried_out g ceiling (drop i log) →
      whole ≡ take (i + 1) (set log i (record { call = (get_or log i d).call; answer = Some r }))
      ++ carried_out g' ceiling (drop (i + 1) (set log i (record { call = (get_or log i d).call; answer = Some r })))
  unfolding carried_out noted
  log_more whole h = rw (front_more, back_more, left, kept, append_assoc) (rw (drop_more log i d within) at h)

  pub standing_more : (end : Grid) → end ≡ standing g ceiling (drop i log) →
      end ≡ standing g' ceiling (drop (i + 1) (set log i (record { call = (get_or log i d).call; answer = Some r })))
  unfolding standing noted
  standing_more end h = rw (back_more, left, kept) (rw (drop_more log i d within) at h)

pub log_all : (g : Grid) (ceiling : ℕ) (log : List Logged) (i : ℕ) → length log ≤ i → take i log ++ carried_out g ceiling (drop i log) ≡ log
unfolding carried_out
log_all g ceiling log i h = rw (drop_all i log h, take_all i log h, append-nil)

pub standing_all : (g : Grid) (ceiling : ℕ) (log : List Logged) (i : ℕ) → length log ≤ i → standing g ceiling (drop i log) ≡ g
unfolding standing
standing_all g ceiling log i h = rw (drop_all i log h)
