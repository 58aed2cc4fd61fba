use Rattle.std.proofs.Common.{rules, ◌≡◌, ◌≢◌, ◌==◌, ◌||◌, List, [], Bool, Option, Ok, Err, Result, refl, sym, ◌∙◌, ap, subst}
use Rattle.arrayvec.specs.declared.array_vec.ArrayVec.{ArrayVec}
use Rattle.zb_node_types.specs.declared.change.Change.{Change}
use Rattle.zb_store.specs.Store.{Place}
use Rattle.zb_host.specs.declared.fault.RecordFault.TheVariants as why
use Rattle.zb_store.specs.declared.fault.StoreFault.{StoreFault}
use Rattle.zb_host.specs.Hosts.{Hosted, HasStopped, IsCommit, is_full, writes_whole}
use Rattle.zb_host.proofs.Commits.{Leading, host_moments, host_kept, host_stopped, host_leads, went_not_worn, disk_not_worn, of_disk, of_worn, same_fault, unstored}
use Rattle.zb_host.proofs.host.Host.handle_into.Goals as goal

pub returns-in-Ok-clause-step : goal.returns-in-Ok-clause-step
returns-in-Ok-clause-step g c =
    let host = c.args.self.now in
    let after = c.apply.new.self in
    let e = c.args.event.now in
    let p = c.plan.new.plan in
    let payload = g.C.Core.payload p.changes.items in
    let old = g.D.Disk.state c.args.disk.now in
    let new = g.D.Disk.state c.commit.new.disk in
    let core = ap (λ (h : Hosted g.row.C.Denot). h.core) c.self.view_is in
    let plan = subst (λ (k : g.row.C.Denot). g.C.Core.is_plan k e p) core c.plan.ensures in
    let done = subst (λ (k : g.row.C.Denot). g.C.Core.is_after k p after) core c.apply.ensures in
    let laws : Leading g.C.Core.restored g.C.Core.recorded host.core after payload = record {
      keeps = g.met.C.Core.keeps host.core after e p plan done;
      newest = g.met.C.Core.newest after;
      adds = λ r q later gives. g.met.C.Core.adds host.core after e p r q plan done later gives;
    } in
    let inside = sym c.take.ensures.value ∙ c.unwrap-store.ensures in
    let is = sym (ap (λ (h : Hosted g.row.C.Denot). h.store) c.self.view_is) ∙ inside in
    let whole : writes_whole host ≡ (c.self.inside.whole || c.unwrap-store.result.entries == 32) =
    sym (ap (λ (h : Hosted g.row.C.Denot). writes_whole h) c.self.view_is) ∙ ap
    (λ (o : Option Place). c.self.inside.whole || is_full o) inside in
    let commit =
    subst (λ (b : Bool). IsCommit g.D.Disk.tells b (g.C.Core.recorded after) payload c.unwrap-store.result old new
    (Ok c.in-Ok.store)) (sym whole) c.in-Ok.ensures.commits in
    record {
      moments = λ s current told. host_moments g.C.Core.restored g.C.Core.recorded g.D.Disk.tells s host after
          c.unwrap-store.result payload old new (Ok c.in-Ok.store) is laws commit current told;
      kept = λ some s current told. host_kept g.C.Core.restored g.C.Core.recorded g.D.Disk.tells s host after
          c.unwrap-store.result c.in-Ok.store payload old new is laws commit current told;
      idle_kept = search rules;
      down = tt;
    }

pub returns-in-Ok-clause-not_worn : goal.returns-in-Ok-clause-not_worn
returns-in-Ok-clause-not_worn g c = λ some worn.
    let host = c.args.self.now in
    let after = c.apply.new.self in
    let payload = g.C.Core.payload c.plan.new.plan.changes.items in
    let old = g.D.Disk.state c.args.disk.now in
    let new = g.D.Disk.state c.commit.new.disk in
    let inside = sym c.take.ensures.value ∙ c.unwrap-store.ensures in
    let is = sym (ap (λ (h : Hosted g.row.C.Denot). h.store) c.self.view_is) ∙ inside in
    let whole : writes_whole host ≡ (c.self.inside.whole || c.unwrap-store.result.entries == 32) =
    sym (ap (λ (h : Hosted g.row.C.Denot). writes_whole h) c.self.view_is) ∙ ap
    (λ (o : Option Place). c.self.inside.whole || is_full o) inside in
    let commit =
    subst (λ (b : Bool). IsCommit g.D.Disk.tells b (g.C.Core.recorded after) payload c.unwrap-store.result old new
    (Ok c.in-Ok.store)) (sym whole) c.in-Ok.ensures.commits in
    went_not_worn g.D.Disk.tells host c.unwrap-store.result c.in-Ok.store (g.C.Core.recorded after) payload old new is
    commit worn

pub returns-in-Err : goal.returns-in-Err
returns-in-Err g c =
    let p = c.plan.new.plan in
    let f = c.in-Err.fault in
    let e = c.args.event.now in
    let host = c.args.self.now in
    let after = c.apply.new.self in
    let payload = g.C.Core.payload p.changes.items in
    let old = g.D.Disk.state c.args.disk.now in
    let new = g.D.Disk.state c.commit.new.disk in
    let core = ap (λ (h : Hosted g.row.C.Denot). h.core) c.self.view_is in
    let plan = subst (λ (k : g.row.C.Denot). g.C.Core.is_plan k e p) core c.plan.ensures in
    let done = subst (λ (k : g.row.C.Denot). g.C.Core.is_after k p after) core c.apply.ensures in
    let laws : Leading g.C.Core.restored g.C.Core.recorded host.core after payload = record {
      keeps = g.met.C.Core.keeps host.core after e p plan done;
      newest = g.met.C.Core.newest after;
      adds = λ r q later gives. g.met.C.Core.adds host.core after e p r q plan done later gives;
    } in
    let inside = sym c.take.ensures.value ∙ c.unwrap-store.ensures in
    let is = sym (ap (λ (h : Hosted g.row.C.Denot). h.store) c.self.view_is) ∙ inside in
    let whole : writes_whole host ≡ (c.self.inside.whole || c.unwrap-store.result.entries == 32) =
    sym (ap (λ (h : Hosted g.row.C.Denot). writes_whole h) c.self.view_is) ∙ ap
    (λ (o : Option Place). c.self.inside.whole || is_full o) inside in
    let ended =
    subst (λ (r : Result Place StoreFault). IsCommit g.D.Disk.tells
    (c.self.inside.whole || c.unwrap-store.result.entries == 32) (g.C.Core.recorded after) payload
    c.unwrap-store.result old new r) c.in-Err.is c.commit.ensures.commits in
    let it =
    subst (λ (b : Bool). IsCommit g.D.Disk.tells b (g.C.Core.recorded after) payload c.unwrap-store.result old new
    (Err f)) (sym whole) ended in
    let kept : c.withhold.new.self.changes.items ≡ p.changes.items =
    ap (λ (v : ArrayVec Change 16 (Unit {0})). v.items) c.withhold.ensures.changes in
    record {
      planned = tt;
      after = tt;
      withheld = (p, plan, done, c.withhold.ensures.changes, c.withhold.ensures.out);
      step = record {
        moments = λ s current told. host_moments g.C.Core.restored g.C.Core.recorded g.D.Disk.tells s host after
            c.unwrap-store.result payload old new (Err f) is laws it current told;
        kept = tt;
        idle_kept = tt;
        down = c.take.ensures.after;
      };
      through = tt;
      idle = tt;
      idle_store = tt;
      idle_whole = tt;
      stopped = λ fault s current told steady.
          let disk = of_disk f c.fault_of.result c.fault_of.ensures
          (same_fault c.fault_of.result why.Disk _ _ refl refl fault)
          in
          subst (λ (l : List Change). HasStopped g.D.Disk.tells g.C.Core.restored (writes_whole host) s
          (g.C.Core.recorded after) (g.C.Core.payload l) old new) (sym kept) (
            host_stopped g.C.Core.restored g.C.Core.recorded g.D.Disk.tells s host after c.unwrap-store.result payload
                old new f is disk it current told steady,
            host_leads g.C.Core.restored g.C.Core.recorded s host after payload old laws current,
          );
      changed = subst (λ (l : List Change). l ≢ []) (sym kept) (search rules);
      entry_next = tt;
      not_worn = tt;
      worn = λ fault. it.untouched
          (ap (λ (x : StoreFault). Err x)
          (of_worn f c.fault_of.result c.fault_of.ensures
          (same_fault c.fault_of.result why.Worn _ _ refl refl fault)));
      not_worn_disk = λ fault worn. disk_not_worn g.D.Disk.tells host c.unwrap-store.result (g.C.Core.recorded after)
          payload old new f is
          (of_disk f c.fault_of.result c.fault_of.ensures
          (same_fault c.fault_of.result why.Disk _ _ refl refl fault)) it worn;
      up = tt;
      faults = unstored (writes_whole host) c.unwrap-store.result host.store old new f c.fault_of.result
          c.fault_of.ensures is it.faults;
      count = it.count;
      unrisen = tt;
      asked = it.asked;
    }
