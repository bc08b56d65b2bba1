use Rattle.std.proofs.Common.{◌≡◌, true, false, cond, Ok, Err, is_ok, sym, refl, ap, ◌∙◌, subst, arith, rules, ⊎_elim}
use Rattle.std.proofs.lemmas.Bool.{cases_Bool}
use Rattle.std.proofs.lemmas.Int.{to_z-of_z}
use Rattle.std.proofs.lemmas.Result.{err_from_is_err_and}
use Rattle.station.specs.declared.refusal.Refusal.TheVariants.{Full}
use Rattle.ordered_table.specs.Contents.{rows, lines, room}
use Rattle.ordered_table.proofs.OnTables.{answered}
use Rattle.normals.specs.Register.{Filed, holdings}
use Rattle.normals.proofs.OnChecks.{record_taken, record_declined}
use Rattle.normals.proofs.OnRegister.{wrong_record, filed_with, put_taken, put_full, lines_same, lines_back}
use Rattle.normals.proofs.register.Register.store.Goals as goal

pub returns-in_err-row : goal.returns-in_err-row
returns-in_err-row c =
    let fs = c.ranges.station in
    let fm = c.ranges.month in
    let e = err_from_is_err_and c.from_residual.result c.from_residual.ensures.1 in
    let h = simp to_z-of_z at c.in_err-row.ensures in
    let table = c.args.self.now.table in
    let why = wrong_record (holdings table) c.args.station c.args.month c.args.normals _ (record_declined c.args.station c.args.month c.args.normals _ h) in
    record {
      answer = rw (e.1, e.2, why);
      after = rw why;
      filed = λ t. absurd (grind arith);
      lines = lines_same (lines table) table.used;
      declined = λ _. refl;
      lender = refl;
    }

pub returns : goal.returns
returns c =
    let fs = c.ranges.station in
    let fm = c.ranges.month in
    let h = simp to_z-of_z at c.in_ok-row.ensures in
    let row = c.in_ok-row.row in
    let good = record_taken c.args.station c.args.month c.args.normals row h in
    let table = c.args.self.now.table in
    let after = c.put.new.self in
    let is = answered Full c.put.result c.map_err.result c.map_err.ensures.cases (λ e x p. search rules) in
    ⊎_elim
    (λ (t : is_ok c.put.result ≡ true).
    let taken = put_taken _ _ row.key good.1 good.2 _ row.entry good.3 good.0 (rows table) (rows after) (room table) (room after) (is_ok c.put.result) table.rises c.put.ensures.answer c.put.ensures.rows c.put.ensures.room t in
    record {
      answer = is ∙ ap (λ b. cond b (Ok tt) (Err Full)) t ∙ rw taken.0;
      after = rw taken.0 taken.1;
      filed = λ _. subst (Filed c.args.station c.args.month c.args.normals (holdings table)) (sym taken.1) (filed_with (holdings table) _ _ _ good.0);
      lines = c.put.ensures.lines;
      declined = λ f. absurd (grind (arith, c.map_err.ensures.variant));
      lender = c.put.ensures.lender;
    })
    (λ (f : is_ok c.put.result ≡ false).
    let full = put_full _ _ row.key good.1 good.2 _ row.entry good.3 good.0 (rows table) (rows after) (room table) (room after) (is_ok c.put.result) table.rises c.put.ensures.answer c.put.ensures.rows c.put.ensures.room f in
    record {
      answer = is ∙ ap (λ b. cond b (Ok tt) (Err Full)) f ∙ rw full.0;
      after = rw full.0 full.1;
      filed = λ t. absurd (grind (arith, c.map_err.ensures.variant));
      lines = c.put.ensures.lines;
      declined = λ _. lines_back (lines table) (lines after) table.used (rows after) c.put.ensures.lines full.2;
      lender = c.put.ensures.lender;
    })
    (cases_Bool (is_ok c.put.result))
