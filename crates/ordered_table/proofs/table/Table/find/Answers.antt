use Rattle.std.proofs.Common.{◌∙◌}
use Rattle.ordered_table.proofs.OnOrder.{order_of}
use Rattle.ordered_table.proofs.OnTables.{found_there, found_none, found_entry, place_known, place_unknown}
use Rattle.ordered_table.proofs.table.Table.find.Goals as goal

pub returns-in_err-place : goal.returns-in_err-place
returns-in_err-place g c =
    let t = c.args.self.now in
    let o = order_of g.met.K.Key.itself g.met.K.Key.chain g.met.K.Key.apart in
    let at = place_unknown c.seek.ensures.is c.in_err-place.ensures.value in
    let is = c.from_residual.ensures ∙ found_none o c.args.key t.lines.now t.used t.within t.rises c.rows-rows.result.now c.rows-rows.ensures at.0 at.1 in
    record { answer = is; map = found_entry o c.args.key t.lines.now t.used t.within t.rises _ c.rows-rows.ensures _ is }

pub returns : goal.returns
returns g c =
    let t = c.args.self.now in
    let o = order_of g.met.K.Key.itself g.met.K.Key.chain g.met.K.Key.apart in
    let at = place_known c.seek.ensures.is c.seek.ensures.inside c.in_ok-place.ensures.value in
    let is = found_there o c.args.key t.lines.now t.used t.within t.rises c.rows-rows.result.now c.rows-rows.ensures c.in_ok-place.place c.index-rows-place.result at.0 in
    record { answer = is; map = found_entry o c.args.key t.lines.now t.used t.within t.rises c.rows-rows.result.now c.rows-rows.ensures _ is }
