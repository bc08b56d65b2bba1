-- Figures that fit are laid out as lawful fields. Assumes nothing.
use Rattle.std.proofs.Common.{◌≡◌, ℕ, ◌≤◌, true, false, not, ◌&&◌, ◌||◌, leb, List, [], ◌∷◌, ◌++◌, length, take, drop, Some, None, Option, sym, refl, ap, ◌∙◌, ap₂, ⊎_elim, arith, length-take-le, take_at, drop_at}
use Rattle.std.proofs.lemmas.List.{length-map}
use Rattle.std.proofs.lemmas.Bool.{and_parts, and_from, or_left, or_right, cases_Bool, cond-true, cond-false, leb-true}
use Rattle.std.specs.List.{list_all}
use Rattle.layout.specs.declared.field.Field.TheVariants.{LeftOut}
use Rattle.layout.specs.declared.row.Row.{Row}
use Rattle.layout.specs.declared.row.Group.{Group}
use Rattle.layout.specs.declared.section.Section.{Section}
use Rattle.layout.specs.Tables.{groups_of, rows_of}
use Rattle.layout.specs.Lawful.{Cell, is_barred, is_nought, is_left_out, all_good, tells_nothing, stands_well, groups_lawful}
use Rattle.layout.specs.Laid.{is_absent, is_zero, is_silent, cell_of, settled, laid, group_fits, figures_fit, LaidLawful}

-- ---- what the fields of a group say of its figures
barred_absent : (figures : List (Option ℕ)) → list_all is_barred (settled false figures) ≡ list_all is_absent figures
barred_absent [] = refl
barred_absent (None ∷ figures) = barred_absent figures
barred_absent (Some n ∷ figures) = refl

nought_zero : (figures : List (Option ℕ)) → list_all is_nought (settled false figures) ≡ list_all is_zero figures
nought_zero [] = refl
nought_zero (None ∷ figures) = refl
nought_zero (Some n ∷ figures) = ap (λ b. is_zero (Some n) && b) (nought_zero figures)

silent_tells : (g : Group) (figures : List (Option ℕ)) → tells_nothing g (settled false figures) ≡ is_silent g figures
silent_tells g figures = ap₂ (λ a b. a || (g.noughts && b)) (barred_absent figures) (nought_zero figures)

all_left_out : (figures : List (Option ℕ)) → list_all is_left_out (settled true figures) ≡ true
all_left_out [] = refl
all_left_out (f ∷ figures) = all_left_out figures

-- ---- a group
group_lawful : (d : ℕ) (g : Group) (rows : List Row) (figures : List (Option ℕ)) → group_fits d g rows figures ≡ true →
    (stands_well d g rows (settled (is_silent g figures) figures) || (not g.required && list_all is_left_out (settled (is_silent g figures) figures))) ≡ true
group_lawful d g rows figures h =
    ⊎_elim
    (λ (s : is_silent g figures ≡ true).
    let free : not g.required ≡ true = sym (cond-true (is_silent g figures) _ _ s) ∙ h in
    rw s (or_right _ _ (and_from _ _ free (all_left_out figures))))
    (λ (s : is_silent g figures ≡ false).
    let good : all_good d rows LeftOut (settled false figures) ≡ true = sym (cond-false (is_silent g figures) _ _ s) ∙ h in
    let tells : not (tells_nothing g (settled false figures)) ≡ true = ap not (silent_tells g figures ∙ s) in
    rw s (or_left _ _ (and_from _ _ good tells)))
    (cases_Bool (is_silent g figures))

-- ---- all groups
laid_lawful : (d : ℕ) (groups : List Group) (rows : List Row) (figures : List (Option ℕ)) → figures_fit d groups rows figures ≡ true → groups_lawful d groups rows (laid groups figures) ≡ true
unfolding figures_fit groups_lawful laid
laid_lawful d [] rows [] h = refl
laid_lawful d [] rows (f ∷ figures) h = absurd (grind arith)
laid_lawful d (g ∷ groups) rows figures h =
    let c : ℕ = g.count in
    let h2 = and_parts (leb c (length figures)) _ h in
    let h3 = and_parts (group_fits d g (take c rows) (take c figures)) (figures_fit d groups (drop c rows) (drop c figures)) h2.1 in
    let enough : c ≤ length figures = leb-true c (length figures) h2.0 in
    let here : List Cell = settled (is_silent g (take c figures)) (take c figures) in
    let long : length here ≡ c = length-map (take c figures) (cell_of (is_silent g (take c figures))) ∙ length-take-le c figures enough in
    let rest : List Cell = laid groups (drop c figures) in
    let first : take c (here ++ rest) ≡ here = take_at here rest c long in
    let others : drop c (here ++ rest) ≡ rest = drop_at here rest c long in
    rw (first, others) (and_from _ _ (group_lawful d g (take c rows) (take c figures) h3.0) (laid_lawful d groups (drop c rows) (drop c figures) h3.1))

pub section_laid : (s : Section) (figures : List (Option ℕ)) → LaidLawful s figures
section_laid s figures d h = laid_lawful d (groups_of s) (rows_of s) figures h
