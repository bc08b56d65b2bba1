use Rattle.std.proofs.Common.{◌∙◌, refl, rules, arith}
use Rattle.ordered_table.proofs.OnOrder.{order_of}
use Rattle.ordered_table.proofs.OnTables.{removed_there, removed_none, found_on_line, found_none, fewer_rise, place_known, place_unknown}
use Rattle.ordered_table.proofs.table.Table.remove.Goals as goal

-- the key has no row
pub returns-in_err-place : goal.returns-in_err-place
returns-in_err-place g c =
    let t = c.args.self.now in
    let o = order_of g.met.K.Key.itself g.met.K.Key.chain g.met.K.Key.apart in
    let at = place_unknown c.seek.ensures.is c.in_err-place.ensures.value in
    let p = removed_none o c.args.key t.lines.now t.used t.within t.rises c.rows.result.now c.rows.ensures at.0 at.1 in
    record { answer = c.from_residual.ensures ∙ found_none o c.args.key t.lines.now t.used t.within t.rises c.rows.result.now c.rows.ensures at.0 at.1; rows = p.rows; lines = p.lines; room = refl; lender = refl; map = p.map }

-- its row is taken out
pub invariant_of-self : goal.invariant_of-self
invariant_of-self g c =
    let t = c.args.self.now in
    let o = order_of g.met.K.Key.itself g.met.K.Key.chain g.met.K.Key.apart in
    record { within = omega (arith, t.within); rises = fewer_rise o c.args.key t.lines.now t.used t.within t.rises c.rows.result.now c.rows.ensures _ (omega arith) }

pub invariant_of-self-2 : goal.invariant_of-self-2
invariant_of-self-2 g c =
    let t = c.args.self.now in
    let o = order_of g.met.K.Key.itself g.met.K.Key.chain g.met.K.Key.apart in
    let at = place_known c.seek.ensures.is c.seek.ensures.inside c.in_ok-place.ensures.value in
    let p = removed_there o c.args.key t.lines.now t.used t.within t.rises c.rows.result.now c.rows.ensures c.in_ok-place.place c.remove_at.new.lines at.0 at.1 c.remove_at.ensures in
    record { within = p.within; rises = p.rises }

pub returns : goal.returns
returns g c =
    let t = c.args.self.now in
    let o = order_of g.met.K.Key.itself g.met.K.Key.chain g.met.K.Key.apart in
    let at = place_known c.seek.ensures.is c.seek.ensures.inside c.in_ok-place.ensures.value in
    let p = removed_there o c.args.key t.lines.now t.used t.within t.rises c.rows.result.now c.rows.ensures c.in_ok-place.place c.remove_at.new.lines at.0 at.1 c.remove_at.ensures in
    record {
      answer = found_on_line o c.args.key t.lines.now t.used t.within t.rises c.rows.result.now c.rows.ensures c.in_ok-place.place c.index-self-place.result at.0 at.1;
      rows = p.rows;
      lines = p.lines;
      room = search rules;
      lender = refl;
      map = p.map;
    }
