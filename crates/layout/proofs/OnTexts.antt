-- The text of fields and groups, one after the other, as a draft takes it. Assumes nothing.
use Rattle.std.proofs.Common.{◌≡◌, ℕ, ◌+◌, ◌<◌, ◌≤◌, List, [], ◌∷◌, ◌++◌, length, get_or, take, drop, sym, refl, ap, ap₂, ◌∙◌, ◌⊎◌, ⊎_elim, append_assoc}
use Rattle.std.proofs.lemmas.List.{drop_more, drop_all}
use Rattle.text.specs.declared.draft.Draft.{Draft}
use Rattle.text.specs.Drafts.{kept, text_of}
use Rattle.text.proofs.OnDrafts.{kept_again, none_written}
use Rattle.layout.specs.declared.row.Row.{Row}
use Rattle.layout.specs.declared.row.Group.{Group}
use Rattle.layout.specs.Lawful.{Cell}
use Rattle.layout.specs.Texts.{field_text, fields_text, group_text, groups_text}

-- ---- one part of a text after the other
pub part_written : (all text part rest next : List ℕ) → all ≡ kept (text ++ (part ++ rest)) → next ≡ kept (text ++ part) → all ≡ kept (next ++ rest)
part_written all text part rest next h e =
    h ∙ ap kept (sym (append_assoc text part rest)) ∙ sym (kept_again (text ++ part) rest) ∙ ap (λ z. kept (z ++ rest)) (sym e)

pub all_written : (all : List ℕ) (d : Draft) (rest : List ℕ) → all ≡ kept (text_of d ++ rest) → rest ≡ [] → text_of d ≡ all
all_written all d rest h e = none_written d ∙ ap (λ z. kept (text_of d ++ z)) (sym e) ∙ sym h

-- ---- fields
pub field_next : (r : Row) (c : Cell) {rows rows-behind : List Row} {cells cells-behind : List Cell} → rows ≡ r ∷ rows-behind → cells ≡ c ∷ cells-behind → fields_text rows cells ≡ field_text r c ++ fields_text rows-behind cells-behind
unfolding fields_text
field_next r c e e' = ap₂ fields_text e e'

no_cells : (rows : List Row) → fields_text rows [] ≡ []
unfolding fields_text
no_cells [] = refl
no_cells (r ∷ rows) = refl

no_rows : (cells : List Cell) → fields_text [] cells ≡ []
unfolding fields_text
no_rows cells = refl

-- no row or no cell is left
pub no_field : (rows : List Row) (cells : List Cell) → (rows ≡ []) ⊎ (cells ≡ []) → fields_text rows cells ≡ []
no_field rows cells none = ⊎_elim (λ e. ap (λ rs. fields_text rs cells) e ∙ no_rows cells) (λ e. ap (fields_text rows) e ∙ no_cells rows) none

-- ---- groups
pub groups_at : (groups : List Group) (rows : List Row) (cells : List Cell) (i : ℕ) (g : Group) → i < length groups →
    groups_text (drop i groups) rows cells
    ≡ group_text (get_or groups i g) (take (get_or groups i g).count rows) (take (get_or groups i g).count cells)
    ++ groups_text (drop (i + 1) groups) (drop (get_or groups i g).count rows) (drop (get_or groups i g).count cells)
unfolding groups_text
groups_at groups rows cells i g l = rw (drop_more groups i g l)

pub groups_over : (groups : List Group) (rows : List Row) (cells : List Cell) (i : ℕ) → length groups ≤ i → groups_text (drop i groups) rows cells ≡ []
unfolding groups_text
groups_over groups rows cells i l = rw (drop_all i groups l)
