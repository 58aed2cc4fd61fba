use Rattle.std.proofs.Common.{◌≡◌, ◌==◌, ◌||◌, ℕ, Bool, true, false, sym, ◌∙◌, ap, subst}
use Rattle.zb_host.specs.Hosts.{IsCommit}
use Rattle.zb_host.proofs.commit.commit.Goals as goal

pub returns-then-is_whole-clause-commits : goal.returns-then-is_whole-clause-commits
returns-then-is_whole-clause-commits g c =
    let payload = g.C.Core.payload c.args.changes.now.items in
    let is : (c.args.whole || c.args.store.entries == 32) ≡ true =
    ap (λ (n : ℕ). c.args.whole || n == 32) (sym c.entries.ensures.count) ∙ sym c.is_whole.ensures ∙
    c.if-is_whole.true in
    subst (λ (b : Bool). IsCommit g.D.Disk.tells b (g.C.Core.recorded c.args.core.now) payload c.args.store
    (g.D.Disk.state c.args.disk.now) (g.D.Disk.state c.put.new.disk) c.put.result) (sym is) (c.put.ensures payload)

pub returns-else-is_whole-clause-commits : goal.returns-else-is_whole-clause-commits
returns-else-is_whole-clause-commits g c =
    let content = g.C.Core.recorded c.args.core.now in
    let is : (c.args.whole || c.args.store.entries == 32) ≡ false =
    ap (λ (n : ℕ). c.args.whole || n == 32) (sym c.entries.ensures.count) ∙ sym c.is_whole.ensures ∙
    c.if-is_whole.false in
    subst (λ (b : Bool). IsCommit g.D.Disk.tells b content (g.C.Core.payload c.args.changes.now.items) c.args.store
    (g.D.Disk.state c.args.disk.now) (g.D.Disk.state c.append.new.disk) c.append.result) (sym is)
    (c.append.ensures content)
