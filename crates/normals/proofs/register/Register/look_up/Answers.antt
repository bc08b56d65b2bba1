use Rattle.std.proofs.Common.{sym, refl}
use Rattle.std.proofs.lemmas.Int.{to_z-of_z}
use Rattle.std.proofs.lemmas.Result.{err_from_is_err_and}
use Rattle.ordered_table.specs.Contents.{rows, room}
use Rattle.normals.specs.Register.{holdings}
use Rattle.normals.proofs.OnChecks.{key_taken, key_declined}
use Rattle.normals.proofs.OnRegister.{look_declined, look_found}
use Rattle.normals.proofs.register.Register.look_up.Goals as goal

pub returns-in_err-wanted : goal.returns-in_err-wanted
returns-in_err-wanted c =
    let fs = c.ranges.station in
    let fm = c.ranges.month in
    let e = err_from_is_err_and c.from_residual.result c.from_residual.ensures.1 in
    let h = simp to_z-of_z at c.in_err-wanted.ensures in
    let why = key_declined c.args.station c.args.month _ h in
    record { answer = rw (e.1, e.2) (sym (look_declined (holdings c.args.self.now.table) _ _ _ why)); same = refl }

pub returns : goal.returns
returns c =
    let fs = c.ranges.station in
    let fm = c.ranges.month in
    let h = simp to_z-of_z at c.in_ok-wanted.ensures in
    let k = c.in_ok-wanted.wanted in
    let key = key_taken c.args.station c.args.month k h in
    let table = c.args.self.now.table in
    record { answer = look_found _ _ k key.1 key.2 (rows table) (room table) c.find.result table.rises key.0 c.find.ensures.answer; same = refl }
