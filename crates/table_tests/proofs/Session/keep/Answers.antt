use Rattle.std.proofs.Common.{sym}
use Rattle.table_tests.proofs.Entering.{kept}
use Rattle.table_tests.proofs.Session.keep.Goals as goal

pub returns-in-Ok : goal.returns-in-Ok
returns-in-Ok g c =
    sym (kept (g.L.Store.places c.args.self.now.store) (g.L.Store.keys c.args.self.now.store) (g.L.Store.keys c.enter.new.self)
    c.args.key c.in-Ok.field-0 c.in-Ok.ensures.entered)
