-- The fields of a section from its figures, group by group. Assumes nothing.
use Rattle.std.proofs.Common.{◌≡◌, ℕ, ◌-◌, ◌<◌, ◌≤◌, true, Bool, List, [], ◌∷◌, ◌++◌, length, get_or, take, drop, Option, ap, ap₂, ◌∙◌, arith}
use Rattle.std.proofs.lemmas.List.{take_all}
use Rattle.layout.specs.declared.row.Group.{Group}
use Rattle.layout.specs.Lawful.{Cell}
use Rattle.layout.specs.Laid.{settled, is_silent, laid}

-- no group is left
pub none_laid : (groups : List Group) (figures : List (Option ℕ)) (cells : List Cell) → length groups < 1 → cells ≡ settled true figures → cells ≡ laid groups figures
unfolding laid
none_laid [] figures cells none e = e
none_laid (g ∷ groups) figures cells none e = absurd (omega arith)

-- the first group's fields, and those of the groups behind it
pub group_laid : (groups : List Group) (g : Group) (figures here behind : List (Option ℕ)) (silent : Bool) (cells cells_behind : List Cell) → 1 ≤ length groups →
    here ≡ take (get_or groups 0 g).count figures → behind ≡ drop (get_or groups 0 g).count figures → silent ≡ is_silent (get_or groups 0 g) here →
    cells ≡ settled silent here → cells_behind ≡ laid (take (length groups - 1) (drop 1 groups)) behind → cells ++ cells_behind ≡ laid groups figures
unfolding laid
group_laid [] g figures here behind silent cells cells_behind some front back told put others = absurd (omega arith)
group_laid (first ∷ groups) g figures here behind silent cells cells_behind some front back told put others =
    let rest : take (length (first ∷ groups) - 1) (drop 1 (first ∷ groups)) ≡ groups = take_all (length (first ∷ groups) - 1) groups (omega arith) in
    ap₂ ◌++◌
    (put ∙ ap₂ settled told front ∙ ap (λ figs. settled (is_silent first figs) (take first.count figures)) front)
    (others ∙ ap₂ laid rest back)
