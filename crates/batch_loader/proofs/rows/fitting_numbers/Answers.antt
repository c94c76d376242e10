use Rattle.std.proofs.Common.{[], ◌∷◌, arith}
use Rattle.batch_loader.specs.LineFields.{fields_at}
use Rattle.batch_loader.specs.Tables.{lineorder_columns}
use Rattle.batch_loader.proofs.ColumnByColumn.{ReadsFields-numbers, ReadsFields-fits, length-parts_at}
use Rattle.batch_loader.proofs.rows.fitting_numbers.Goals as goal

pub returns-clause-fits : goal.returns-clause-fits
returns-clause-fits c = λ line.
    let keys = c.in_ok-keys.ensures in
    let order = c.in_ok-order.ensures in
    let amounts = c.in_ok-amounts.ensures in
    ReadsFields-fits line 0 lineorder_columns (fields_at c.args.fields.now)
    (c.in_ok-keys.keys.0 ∷ c.in_ok-keys.keys.1 ∷ c.in_ok-keys.keys.2 ∷ c.in_ok-keys.keys.3 ∷ c.in_ok-keys.keys.4
    ∷ c.in_ok-keys.keys.5 ∷ c.in_ok-order.order.0 ∷ c.in_ok-order.order.1 ∷ c.in_ok-order.order.2
    ∷ c.in_ok-order.order.3 ∷ c.in_ok-order.order.4 ∷ c.in_ok-amounts.amounts.0 ∷ c.in_ok-amounts.amounts.1
    ∷ c.in_ok-amounts.amounts.2 ∷ c.in_ok-amounts.amounts.3 ∷ c.in_ok-amounts.amounts.4 ∷ c.in_ok-amounts.amounts.5
    ∷ [])
    (omega (arith, length-parts_at c.args.fields.now.line.now c.args.fields.now.ends.now 0)) (
      keys.0,
      (
        keys.1.0,
        (
          keys.1.1.0,
          (
            keys.1.1.1.0,
            (
              keys.1.1.1.1.0,
              (
                keys.1.1.1.1.1.0,
                (
                  order.0,
                  (
                    order.1.0,
                    (
                      order.1.1.0,
                      (
                        order.1.1.1.0,
                        (
                          order.1.1.1.1.0,
                          (
                            amounts.0,
                            (
                              amounts.1.0,
                              (amounts.1.1.0, (amounts.1.1.1.0, (amounts.1.1.1.1.0, (amounts.1.1.1.1.1.0, tt)))),
                            ),
                          ),
                        ),
                      ),
                    ),
                  ),
                ),
              ),
            ),
          ),
        ),
      ),
    )

pub returns-clause-numbers : goal.returns-clause-numbers
returns-clause-numbers c =
    let keys = c.in_ok-keys.ensures in
    let order = c.in_ok-order.ensures in
    let amounts = c.in_ok-amounts.ensures in
    ReadsFields-numbers 0 lineorder_columns (fields_at c.args.fields.now)
    (c.in_ok-keys.keys.0 ∷ c.in_ok-keys.keys.1 ∷ c.in_ok-keys.keys.2 ∷ c.in_ok-keys.keys.3 ∷ c.in_ok-keys.keys.4
    ∷ c.in_ok-keys.keys.5 ∷ c.in_ok-order.order.0 ∷ c.in_ok-order.order.1 ∷ c.in_ok-order.order.2
    ∷ c.in_ok-order.order.3 ∷ c.in_ok-order.order.4 ∷ c.in_ok-amounts.amounts.0 ∷ c.in_ok-amounts.amounts.1
    ∷ c.in_ok-amounts.amounts.2 ∷ c.in_ok-amounts.amounts.3 ∷ c.in_ok-amounts.amounts.4 ∷ c.in_ok-amounts.amounts.5
    ∷ []) (
      keys.0,
      (
        keys.1.0,
        (
          keys.1.1.0,
          (
            keys.1.1.1.0,
            (
              keys.1.1.1.1.0,
              (
                keys.1.1.1.1.1.0,
                (
                  order.0,
                  (
                    order.1.0,
                    (
                      order.1.1.0,
                      (
                        order.1.1.1.0,
                        (
                          order.1.1.1.1.0,
                          (
                            amounts.0,
                            (
                              amounts.1.0,
                              (amounts.1.1.0, (amounts.1.1.1.0, (amounts.1.1.1.1.0, (amounts.1.1.1.1.1.0, tt)))),
                            ),
                          ),
                        ),
                      ),
                    ),
                  ),
                ),
              ),
            ),
          ),
        ),
      ),
    )
