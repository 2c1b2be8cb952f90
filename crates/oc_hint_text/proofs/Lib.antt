mod LineRows
